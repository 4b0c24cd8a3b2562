use Rattle.std.proofs.Common.{ℕ, List, ◌≡◌, ◌++◌, ◌≤◌, ◌∙◌, ap, sym, arith, rules, refl, drop, length, take}
use borrow.Rule.Slice.PartMut.{put_mid}
use Rattle.std.proofs.lemmas.List.{take_all, take-append-le, length-take-le, length-drop}
use Rattle.std.proofs.lemmas.Slice.{take-put_mid}
use Rattle.std.proofs.Math.Seq.{take-add}
use Rattle.pt_tree.proofs.short.by_pieces.Goals as goal

-- the pieces of a list, written one after the other over another of its length, are it
pieces : (xs front middle rest behind : List ℕ) → length xs ≡ 22 → length behind ≡ 20 → front ≡ take 2 xs → middle ≡ take 4 (drop 2 xs)
    → rest ≡ take 16 (drop 6 xs)
    → length (put_mid 6 16 (put_mid 2 4 (front ++ behind) middle) rest) ≡ 22 → put_mid 6 16 (put_mid 2 4 (front ++ behind) middle) rest ≡ xs
pieces xs front middle rest behind size left a m r whole =
    let held = front ++ behind in
    let inner = put_mid 2 4 held middle in
    let two : length front ≡ 2 = search rules in
    let four : length middle ≡ 4 = search rules in
    let sixteen : length rest ≡ 16 = ap length r ∙ length-take-le 16 (drop 6 xs) (omega (arith, length-drop 6 xs, size)) in
    let room : length held ≡ 22 = search rules in
    let begun : take 2 held ≡ front = take-append-le 2 front behind (omega (arith, two)) ∙ take_all 2 front (omega (arith, two)) in
    let six : take 6 inner ≡ take 6 xs =
    take-put_mid 2 4 held middle 6 (omega (arith, four)) (omega (arith, room)) ∙ ap (λ l. l ++ middle) (begun ∙ a) ∙ ap (λ l. take 2 xs ++ l) m
    ∙ sym (take-add 2 4 xs) in
    let inside : 6 ≤ length inner = search rules in
    sym (take_all 22 _ (omega (arith, whole))) ∙ take-put_mid 6 16 inner rest 22 (omega (arith, sixteen)) inside
    ∙ ap (λ l. l ++ rest) six ∙ ap (λ l. take 6 xs ++ l) r ∙ sym (take-add 6 16 xs) ∙ take_all 22 xs (omega (arith, size))

pub returns : goal.returns
returns c =
    let held = c.args.held.now in
    pieces held c.copy_from_slice.new.self c.copy_from_slice-2.new.self c.copy_from_slice-3.new.self _ (search rules) refl (search rules) (search rules)
    (search rules) (search rules)
