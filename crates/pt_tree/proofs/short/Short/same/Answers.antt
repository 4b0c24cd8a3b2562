use Rattle.std.proofs.Common.{◌≡◌, ◌++◌, ◌-◌, ◌∙◌, ℕ, List, Bool, true, false, take, drop, replicate, ap, sym, refl}
use Rattle.std.specs.Str.{bytes_eq}
use Rattle.std.proofs.lemmas.List.{take-append-drop}
use Rattle.std.proofs.lemmas.Slice.Eq.{bytes_eq-Decides}
use Rattle.pt_tree.proofs.short.Short.same.Goals as goal

both : (a b : Bool) → (a ≡ true → b ≡ true) → (b ≡ true → a ≡ true) → a ≡ b
both true b to back = sym (to refl)
both false true to back = back refl
both false false to back = refl

-- lists that begin with the same and are the same behind a place are the same where they are so between
between : (n : ℕ) (xs ys : List ℕ) → take 1 xs ≡ take 1 ys → drop n (drop 1 xs) ≡ drop n (drop 1 ys)
    → bytes_eq xs ys ≡ bytes_eq (take n (drop 1 xs)) (take n (drop 1 ys))
between n xs ys front behind =
    let whole = bytes_eq-Decides xs ys in
    let part = bytes_eq-Decides (take n (drop 1 xs)) (take n (drop 1 ys)) in
    both _ _ (λ is. part.1 (ap (λ l. take n (drop 1 l)) (whole.0 is)))
    (λ is.
    let rest : drop 1 xs ≡ drop 1 ys =
    sym (take-append-drop n (drop 1 xs)) ∙ ap (λ l. l ++ drop n (drop 1 xs)) (part.0 is) ∙ ap (λ l. take n (drop 1 ys) ++ l) behind
    ∙ take-append-drop n (drop 1 ys) in
    whole.1 (sym (take-append-drop 1 xs) ∙ ap (λ l. l ++ drop 1 xs) front ∙ ap (λ l. take 1 ys ++ l) rest ∙ take-append-drop 1 ys))

pub returns-then-self-other : goal.returns-then-self-other
returns-then-self-other c =
    let a = c.args.self.now in
    let b = c.args.other.now in
    let len = c.if-self-other.true in
    let behind : drop a.len (drop 1 a.bytes) ≡ drop a.len (drop 1 b.bytes) =
    a.padded ∙ ap (λ n. replicate (21 - n) 0) len ∙ sym b.padded ∙ ap (λ n. drop n (drop 1 b.bytes)) (sym len) in
    c.same_arrays.ensures ∙ between a.len a.bytes b.bytes (a.slashed ∙ sym b.slashed) behind
    ∙ ap (λ n. bytes_eq (take a.len (drop 1 a.bytes)) (take n (drop 1 b.bytes))) len
