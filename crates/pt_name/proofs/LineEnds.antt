-- Taking LF and CR off the end, one by one.
use Rattle.std.proofs.Common.{◌≡◌, ℕ, ◌+◌, ◌-◌, ◌<◌, ◌≤◌, true, false, List, [], ◌∷◌, ◌++◌, Some, None, take, length, get_or, refl, sym, ap, ◌∙◌, arith}
use Rattle.std.specs.Str.{is_utf8, IsUtf8}
use Rattle.std.proofs.lemmas.Str.{IsUtf8-from_is_utf8, is_utf8-from_IsUtf8}
use Rattle.std.proofs.lemmas.Bool.{false_from_ne_true}
use Rattle.std.proofs.lemmas.List.{take_more}
use Rattle.pt_name.specs.Prefix.{ends_line, kept_before, prefix_refusal, without_line_ends}
use Rattle.pt_name.specs.declared.prefix.PrefixFault.TheVariants as fault

-- what is kept before something that ends
kept_before-push : (y : ℕ) (xs : List ℕ) (x : ℕ) → kept_before y (xs ++ x ∷ []) ≡ y ∷ (xs ++ x ∷ [])
kept_before-push y [] x = refl
kept_before-push y (z ∷ xs) x = refl

-- the last byte goes where it ends a line
last_goes : (xs : List ℕ) (x : ℕ) → ends_line x ≡ true → without_line_ends (xs ++ x ∷ []) ≡ without_line_ends xs
last_goes [] x e = rw e refl
last_goes (y ∷ xs) x e = ap (kept_before y) (last_goes xs x e)

-- and all stays where it doesn't
last_stays : (xs : List ℕ) (x : ℕ) → ends_line x ≡ false → without_line_ends (xs ++ x ∷ []) ≡ xs ++ x ∷ []
last_stays [] x e = rw e refl
last_stays (y ∷ xs) x e = ap (kept_before y) (last_stays xs x e) ∙ kept_before-push y xs x

-- a front, and its last byte
last_of_front : (bytes : List ℕ) (end : ℕ) → 0 < end → end ≤ length bytes → take end bytes ≡ take (end - 1) bytes ++ get_or bytes (end - 1) 0 ∷ []
last_of_front bytes end p h =
    let e : end ≡ (end - 1) + 1 = omega arith in
    ap (λ n. take n bytes) e ∙ take_more bytes (end - 1) 0 (omega arith)

-- one byte less
pub one_less : (bytes : List ℕ) (end : ℕ) → 0 < end → end ≤ length bytes → ends_line (get_or bytes (end - 1) 0) ≡ true
    → without_line_ends (take (end - 1) bytes) ≡ without_line_ends (take end bytes)
one_less bytes end p h e = sym (ap without_line_ends (last_of_front bytes end p h) ∙ last_goes (take (end - 1) bytes) (get_or bytes (end - 1) 0) e)

-- none less
pub none_less : (bytes : List ℕ) (end : ℕ) → 0 < end → end ≤ length bytes → ends_line (get_or bytes (end - 1) 0) ≡ false
    → take end bytes ≡ without_line_ends (take end bytes)
none_less bytes end p h e =
    let whole = last_of_front bytes end p h in
    whole ∙ sym (ap without_line_ends whole ∙ last_stays (take (end - 1) bytes) (get_or bytes (end - 1) 0) e)

-- a prefix
pub prefix_passes : (bytes : List ℕ) → length bytes ≤ 1024 → IsUtf8 (without_line_ends bytes) → prefix_refusal bytes ≡ None
prefix_passes bytes h text = let t = is_utf8-from_IsUtf8 (without_line_ends bytes) text in grind (arith, t, h)

-- a prefix that isn't text
pub prefix_fails : (bytes : List ℕ) → length bytes ≤ 1024 → (IsUtf8 (without_line_ends bytes) → ⊥) → prefix_refusal bytes ≡ Some fault.NotUtf8
prefix_fails bytes h none =
    let t = false_from_ne_true (is_utf8 (without_line_ends bytes)) (λ e. none (IsUtf8-from_is_utf8 (without_line_ends bytes) e)) in grind (arith, t, h)
