-- A name has no NUL, and so the text of a path of names has none.
use Rattle.std.proofs.Common.{◌≡◌, ℕ, Bool, true, false, List, [], ◌∷◌, cond, length, refl}
use Rattle.std.specs.Prelude.{◌==◌, ◌||◌, nat_lt, None, Some, is_none}
use Rattle.std.specs.List.{list_any}
use Rattle.std.specs.Str.{bytes_eq, is_utf8}
use Rattle.std.proofs.lemmas.Bool.{or_parts}
use Rattle.std.proofs.lemmas.List.Elements.{All-append, All-cons, All-head, All-nil, All-tail}
use Rattle.pt_tree.specs.Name.{AreNames, is_forbidden_name, is_name}
use Rattle.pt_tree.specs.Path.{Path, joined}
use Rattle.pt_tree.specs.declared.name.NameFault.TheVariants as fault
use Rattle.pt_rehearsal.specs.Buckets.{HasNoNul, is_nul}

free_by : (n : List ℕ) → list_any is_nul n ≡ false → HasNoNul n
free_by [] none = All-nil (λ b. is_nul b ≡ false)
free_by (x ∷ n) none =
    let parts = or_parts (is_nul x) (list_any is_nul n) none in
    All-cons (λ b. is_nul b ≡ false) x n parts.0 (free_by n parts.1)

pub name_free : (n : List ℕ) → is_name n ≡ true → HasNoNul n
name_free n is =
    let all = forbidden (length n == 0) (nat_lt 255 (length n)) (is_utf8 n) (is_forbidden_name n) is in
    free_by n (second (list_any (λ b. b == 47) n) (list_any is_nul n) (bytes_eq n (46 ∷ [])) (bytes_eq n (46 ∷ 46 ∷ [])) all)
  where
    forbidden : (a b c d : Bool) → is_none (cond a (Some fault.Empty) (cond b (Some fault.TooLong)
        (cond c (cond d (Some fault.Forbidden) None) (Some fault.NotUtf8)))) ≡ true → d ≡ false
    forbidden true b c d is = absurd (cc)
    forbidden false true c d is = absurd (cc)
    forbidden false false false d is = absurd (cc)
    forbidden false false true true is = absurd (cc)
    forbidden false false true false is = refl

    second : (a b c d : Bool) → (a || b || c || d) ≡ false → b ≡ false
    second true b c d is = absurd (cc)
    second false true c d is = absurd (cc)
    second false false c d is = refl

pub joined_free : (p : Path) → AreNames p → HasNoNul (joined p)
joined_free [] names = All-nil (λ b. is_nul b ≡ false)
joined_free (x ∷ []) names = name_free x (All-head (λ n. is_name n ≡ true) x [] names)
joined_free (x ∷ y ∷ p) names =
    All-append (λ b. is_nul b ≡ false) x (47 ∷ joined (y ∷ p)) (name_free x (All-head (λ n. is_name n ≡ true) x (y ∷ p) names))
    (All-cons (λ b. is_nul b ≡ false) 47 (joined (y ∷ p)) refl (joined_free (y ∷ p) (All-tail (λ n. is_name n ≡ true) x (y ∷ p) names)))
