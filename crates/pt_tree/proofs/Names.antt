-- Equal names, and names in order.
use Rattle.std.proofs.Common.{◌≡◌, ℕ, List, true, false, refl, sym, ◌∙◌, ap}
use Rattle.std.specs.Prelude.{Bool, cond}
use Rattle.std.specs.declared.cmp.Ordering.{Ordering}
use Rattle.std.specs.declared.cmp.Ordering.TheVariants.{Less, Equal, Greater}
use Rattle.std.specs.Ordering.{is_lt, is_eq, nat_cmp, ordering_reverse}
use Rattle.std.specs.Cmp.Lexicographic.{slice_cmp, nat_list_cmp_total}
use Rattle.std.specs.Str.{bytes_eq}
use Rattle.std.proofs.lemmas.Slice.Eq.{bytes_eq-Decides}
use Rattle.std.proofs.lemmas.Map.Text.{is_eq-slice_cmp}
use Rattle.std.proofs.lemmas.Bool.{true≢false, false_from_ne_true}
use Rattle.pt_tree.specs.Listing.{is_before}
pub use Rattle.pt_tree.specs.ProperParts.{before_Less, before-trans}

pub same_name : (x y : List ℕ) → bytes_eq x y ≡ true → x ≡ y
same_name x y = (bytes_eq-Decides x y).0

pub name_itself : (x : List ℕ) → bytes_eq x x ≡ true
name_itself x = (bytes_eq-Decides x x).1 refl

pub bytes_eq-sym : (x y : List ℕ) (b : Bool) → bytes_eq x y ≡ b → bytes_eq y x ≡ b
bytes_eq-sym x y true h = (bytes_eq-Decides y x).1 (sym (same_name x y h))
bytes_eq-sym x y false h = false_from_ne_true (bytes_eq y x) (λ t. true≢false (sym ((bytes_eq-Decides x y).1 (sym (same_name y x t))) ∙ h))

-- one name isn't two
pub differ : (k n m : List ℕ) → bytes_eq k n ≡ false → bytes_eq k m ≡ true → bytes_eq n m ≡ true → ⊥
differ k n m apart km nm = true≢false (sym ((bytes_eq-Decides k n).1 (same_name k m km ∙ sym (same_name n m nm))) ∙ apart)

pub before_differs : (x y : List ℕ) → is_before x y ≡ true → bytes_eq x y ≡ false
before_differs x y a = sym (is_eq-slice_cmp x y) ∙ ap is_eq (before_Less x y a)

by_order : (x y : List ℕ) (o : Ordering) → slice_cmp nat_cmp x y ≡ o → is_lt o ≡ false → is_eq o ≡ false → is_before y x ≡ true
by_order x y Less is not_less not_equal = absurd (true≢false not_less)
by_order x y Equal is not_less not_equal = absurd (true≢false not_equal)
by_order x y Greater is not_less not_equal = ap is_lt (nat_list_cmp_total.antisymm y x ∙ ap ordering_reverse is)

-- of two names one comes before the other
pub before_other : (x y : List ℕ) → is_before x y ≡ false → bytes_eq x y ≡ false → is_before y x ≡ true
before_other x y not_before apart = by_order x y (slice_cmp nat_cmp x y) refl not_before (is_eq-slice_cmp x y ∙ apart)

-- two tests that don't both hold may be made in either order
pub cond-swap : {A : Type 0} (s t : Bool) (a b c : A) → (s ≡ true → t ≡ true → ⊥) → cond s a (cond t b c) ≡ cond t b (cond s a c)
cond-swap true true a b c apart = absurd (apart refl refl)
cond-swap true false a b c apart = refl
cond-swap false t a b c apart = refl

pub cond_same : {A : Type 0} (t : Bool) (a : A) → cond t a a ≡ a
cond_same true a = refl
cond_same false a = refl
