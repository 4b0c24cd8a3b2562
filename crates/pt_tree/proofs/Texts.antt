-- Texts as a test, and as what is said of them.
use Rattle.std.proofs.Common.{◌≡◌, ℕ, List, [], ◌∷◌, ◌++◌, true, false, inl, inr, refl, arith, sym}
use Rattle.std.specs.Prelude.{Result, Ok, Err, MatchResult, is_ok}
use Rattle.std.specs.Str.{IsUtf8, is_utf8, chars}
use Rattle.std.proofs.lemmas.Str.{IsUtf8-from_is_utf8, is_utf8-from_IsUtf8, IsUtf8-append}
use Rattle.std.proofs.lemmas.Bool.{false_from_ne_true, cases_Bool}
use Rattle.pt_tree.specs.Name.{is_name}

-- what `from_utf8` answers is the test
pub is_ok-is_utf8 : {T E : Type 0} (r : Result T E) (bs : List ℕ) (P : T → Type 0) (Q : E → Type 0)
    → MatchResult r (λ s. P s × IsUtf8 bs) (λ e. (IsUtf8 bs → ⊥) × Q e) → is_ok r ≡ is_utf8 bs
is_ok-is_utf8 (Ok s) bs P Q h = sym (is_utf8-from_IsUtf8 bs h.1)
is_ok-is_utf8 (Err e) bs P Q h = sym (false_from_ne_true (is_utf8 bs) (λ t. h.0 (IsUtf8-from_is_utf8 bs t)))

pub is_utf8-append : (xs ys : List ℕ) → is_utf8 xs ≡ true → is_utf8 ys ≡ true → is_utf8 (xs ++ ys) ≡ true
is_utf8-append xs ys a b = is_utf8-from_IsUtf8 _ (IsUtf8-append xs ys (IsUtf8-from_is_utf8 xs a) (IsUtf8-from_is_utf8 ys b))

pub is_utf8-empty : is_utf8 [] ≡ true
unfolding is_utf8 chars
is_utf8-empty = refl

pub is_utf8-slash : is_utf8 (47 ∷ []) ≡ true
unfolding is_utf8 chars lib.Utf8.encode
is_utf8-slash = refl

-- a name is a text
pub is_utf8-name : (name : List ℕ) → is_name name ≡ true → is_utf8 name ≡ true
is_utf8-name name h = elim (cases_Bool (is_utf8 name)) [
  | inl text ↦ text
  | inr other ↦ absurd (none name other h)
]
  where
    none : (name : List ℕ) → is_utf8 name ≡ false → is_name name ≡ true → ⊥
    none name other h = grind (arith, h, other)
