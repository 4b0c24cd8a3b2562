-- What stands in a list of identifiers, once it is sorted and each is there once; and what a search in it finds.
use Rattle.std.proofs.Common.{
  ◌≡◌,
  ◌<◌,
  ◌≤◌,
  ℕ,
  zero,
  suc,
  Bool,
  true,
  false,
  List,
  [],
  ◌∷◌,
  ◌∙◌,
  ap,
  arith,
  length,
  map,
  refl,
  subst,
  sym,
  get_or,
  add-one,
  inl,
  inr,
}
use Rattle.std.specs.Cmp.{IsTotalOrder, both_ways, on_equiv}
use Rattle.std.specs.Cmp.Lexicographic.{nat_list_cmp_total, nat_list_eq_equiv, slice_cmp}
use Rattle.std.specs.Global.{Global}
use Rattle.std.specs.List.{All, AllWithin, Any, Contains, HoldsAt, dedup, list_any}
use Rattle.std.specs.List.Retain.{DiffersFromLast, IsFiltered}
use Rattle.std.specs.List.Sorted.{IsBinarySearchResult, IsPermutation, IsSorted, IsSearchInRange, IsStrictlySortedBy}
use Rattle.std.specs.Ordering.{eq_by_cmp, is_eq, is_lt, nat_cmp, ordering_reverse}
use Rattle.std.specs.Prelude.{◌⊎◌, IfOk, String, Result, Ok, Err, is_ok}
use Rattle.std.specs.Str.{bytes_eq}
use Rattle.std.specs.String.{string_bytes, string_cmp, string_cmp_total, string_eq}
use Rattle.std.specs.declared.cmp.Ordering.{Ordering}
use Rattle.std.specs.declared.cmp.Ordering.TheVariants.{Less, Equal, Greater}
use Rattle.std.proofs.lemmas.Bool.{cases_lt}
use Rattle.std.proofs.lemmas.List.Elements.{All-get_or, All-from_get_or, All-weaker}
use Rattle.std.proofs.lemmas.List.Filters.{dedup_is}
use Rattle.std.proofs.lemmas.List.Folds.{Any-from_list_any, list_any-from_Any, list_any_at, list_any_none}
use Rattle.std.proofs.lemmas.List.Kept.{Any-dedup, Contains-from_dedup, IsStrictlySortedBy-dedup}
use Rattle.std.proofs.lemmas.List.Sorted.{list_any-IsPermutation, searchable_from_sorted}
use Rattle.std.proofs.lemmas.Map.Keys.{sorted_tail}
use Rattle.std.proofs.lemmas.Map.Text.{is_eq-slice_cmp}
use Rattle.std.proofs.lemmas.Map.Views.{All-after_first}
use Rattle.pt_tree.proofs.Names.{same_name}
use Rattle.pt_name.specs.Share.{ListsAs, is_listed}
use Rattle.pt_name.specs.Unmet.{StandsOnlyAt}
use Rattle.pt_name.proofs.Shares.{any_mapped}

abbrev Text : Type 0
Text = String Global

-- ---- sorted

module _ {K : Type 0} {R : K → K → Ordering} (o : IsTotalOrder R) where
  later : (x y : K) → R x y ≡ Less → is_lt (R y x) ≡ false
  later x y before = ap is_lt (o.antisymm y x ∙ ap ordering_reverse before)

  -- where each is below those after it they are sorted
  from_strict : (ks : List K) → IsStrictlySortedBy R ks → (k : ℕ) (d : K) → suc k < length ks → is_lt (R (get_or ks (suc k) d) (get_or ks k d)) ≡ false
  from_strict [] strict k d h = absurd (omega (arith, h))
  from_strict (x ∷ []) strict k d h = absurd (omega (arith, h))
  from_strict (x ∷ y ∷ ks) strict zero d h = later x y (All-get_or (λ q. R x q ≡ Less) (y ∷ ks) 0 d (omega arith) (All-after_first R x (y ∷ ks) strict))
  from_strict (x ∷ y ∷ ks) strict (suc k) d h = from_strict (y ∷ ks) (sorted_tail R x (y ∷ ks) strict) k d (omega (arith, h))

  pub sorted_from_strict : (ks : List K) → IsStrictlySortedBy R ks → IsSorted R ks
  sorted_from_strict ks strict k d low h =
      ap (λ n. is_lt (R (get_or ks n d) (get_or ks k d))) (add-one k) ∙ from_strict ks strict k d (omega (arith, h))

same_texts : (x y : Text) → string_eq x y ≡ eq_by_cmp string_cmp x y
same_texts x y = sym (is_eq-slice_cmp (string_bytes x) (string_bytes y))

-- each once, they are sorted strictly
pub strict_once : (sorted once : List Text) → IsSorted string_cmp sorted → IsFiltered (DiffersFromLast string_eq) [] sorted once
    → IsStrictlySortedBy string_cmp once
strict_once sorted once up filtered =
    subst (IsStrictlySortedBy string_cmp) (sym (dedup_is string_eq sorted once filtered))
    (IsStrictlySortedBy-dedup string_cmp_total same_texts sorted up)

-- ---- what stands in them

-- the text is this
is_it : List ℕ → Text → Bool
is_it id text = bytes_eq (string_bytes text) id

module _ (id : List ℕ) where
  mapped : (xs : List Text) → is_listed (map string_bytes xs) id ≡ list_any (is_it id) xs
  unfolding is_it
  mapped xs = any_mapped string_bytes (λ listed. bytes_eq listed id) xs

  it_too : (x y : Text) → string_eq x y ≡ true → is_it id x ≡ true → is_it id y ≡ true
  unfolding is_it
  it_too x y same is = ap (λ (b : List ℕ). bytes_eq b id) (sym (same_name (string_bytes x) (string_bytes y) same)) ∙ is

  in_once : (xs : List Text) → list_any (is_it id) xs ≡ true → list_any (is_it id) (dedup string_eq xs) ≡ true
  in_once xs is = by (Any-from_list_any (is_it id) xs is)
    where
      kept : (x : Text) → is_it id x ≡ true → Any (λ y. string_eq x y ≡ true) (dedup string_eq xs) → list_any (is_it id) (dedup string_eq xs) ≡ true
      kept x is (k, y, low, at, same) = list_any-from_Any (is_it id) (dedup string_eq xs) (k, y, low, at, it_too x y same is)

      by : Any (λ x. is_it id x ≡ true) xs → list_any (is_it id) (dedup string_eq xs) ≡ true
      by (k, x, low, at, is) = kept x is (Any-dedup (on_equiv string_bytes nat_list_eq_equiv) xs x (k, low, at))

  from_once : (xs : List Text) → list_any (is_it id) (dedup string_eq xs) ≡ true → list_any (is_it id) xs ≡ true
  from_once xs is = by (Any-from_list_any (is_it id) (dedup string_eq xs) is)
    where
      there : (x : Text) → is_it id x ≡ true → Contains xs x → list_any (is_it id) xs ≡ true
      there x is (k, low, at) = list_any-from_Any (is_it id) xs (k, x, low, at, is)

      by : Any (λ x. is_it id x ≡ true) (dedup string_eq xs) → list_any (is_it id) xs ≡ true
      by (k, x, low, at, is) = there x is (Contains-from_dedup string_eq xs x (k, low, at))

  once_as : (lines sorted once : List Text) → IsPermutation lines sorted → IsFiltered (DiffersFromLast string_eq) [] sorted once
      → is_listed (map string_bytes once) id ≡ is_listed (map string_bytes lines) id
  once_as lines sorted once moved filtered =
      mapped once ∙ ap (list_any (is_it id)) (dedup_is string_eq sorted once filtered)
      ∙ both_ways (list_any (is_it id) (dedup string_eq sorted)) (list_any (is_it id) sorted) (from_once sorted) (in_once sorted)
      ∙ sym (list_any-IsPermutation (is_it id) lines sorted moved) ∙ sym (mapped lines)

  -- ---- what a search finds

  order : Text → Ordering
  order text = slice_cmp nat_cmp (string_bytes text) id

  by_order : (text : Text) → is_it id text ≡ is_eq (order text)
  unfolding is_it order
  by_order text = sym (is_eq-slice_cmp (string_bytes text) id)

  at_place : (xs : List Text) (i : ℕ) → i < length xs → HoldsAt (λ y. order y ≡ Equal) xs i → list_any (is_it id) xs ≡ true
  at_place [] i low at = absurd (omega (arith, low))
  at_place (x ∷ xs) i low at = list_any_at (is_it id) (x ∷ xs) i x low (by_order (get_or (x ∷ xs) i x) ∙ ap is_eq (at x))

  around : (xs : List Text) (i : ℕ) → AllWithin (λ y. order y ≡ Less) xs 0 i × AllWithin (λ y. order y ≡ Greater) xs i (length xs)
      → list_any (is_it id) xs ≡ false
  around [] i sides = refl
  around (x ∷ xs) i (before, behind) = list_any_none (is_it id) (x ∷ xs) (All-from_get_or (λ y. is_it id y ≡ false) (x ∷ xs) x side)
    where
      side : (k : ℕ) → k < length (x ∷ xs) → is_it id (get_or (x ∷ xs) k x) ≡ false
      side k low = by (cases_lt k i)
        where
          by : (k < i) ⊎ (i ≤ k) → is_it id (get_or (x ∷ xs) k x) ≡ false
          by (inl less) = by_order (get_or (x ∷ xs) k x) ∙ ap is_eq (before k x (omega arith) less)
          by (inr more) = by_order (get_or (x ∷ xs) k x) ∙ ap is_eq (behind k x more low)

  -- where one is this, those before it are less, and those behind it greater
  less : (x : Text) (xs : List Text) → All (λ y. string_cmp x y ≡ Less) xs → (i : ℕ) → i < length xs → HoldsAt (λ y. order y ≡ Equal) xs i → is_it id x ≡ false
  unfolding is_it order
  less x [] before i low at = absurd (omega (arith, low))
  less x (y ∷ ys) before i low at = other (All-get_or (λ q. string_cmp x q ≡ Less) (y ∷ ys) i y low before)
    where
      it : Text
      it = get_or (y ∷ ys) i y

      same : string_bytes it ≡ id
      same = same_name (string_bytes it) id (by_order it ∙ ap is_eq (at y))

      other : string_cmp x it ≡ Less → is_it id x ≡ false
      other below = by_order x ∙ ap is_eq (ap (slice_cmp nat_cmp (string_bytes x)) (sym same) ∙ below)

  behind : (x : Text) (xs : List Text) → All (λ y. string_cmp x y ≡ Less) xs → order x ≡ Equal → is_listed (map string_bytes xs) id ≡ false
  unfolding is_it order
  behind x xs above is = mapped xs ∙ list_any_none (is_it id) xs (All-weaker _ _ other xs above)
    where
      same : string_bytes x ≡ id
      same = same_name (string_bytes x) id (by_order x ∙ ap is_eq is)

      other : (y : Text) → string_cmp x y ≡ Less → is_it id y ≡ false
      other y below = by_order y ∙ ap is_eq (ap (slice_cmp nat_cmp (string_bytes y)) (sym same) ∙ string_cmp_total.antisymm y x ∙ ap ordering_reverse below)

  alone : (xs : List Text) (i : ℕ) → IsStrictlySortedBy string_cmp xs → i < length xs → HoldsAt (λ y. order y ≡ Equal) xs i
      → StandsOnlyAt id (map string_bytes xs) i
  unfolding is_it
  alone [] i strict low at = absurd (omega (arith, low))
  alone (x ∷ xs) zero strict low at = (by_order x ∙ ap is_eq (at x), behind x xs (All-after_first string_cmp x xs strict) (at x))
  alone (x ∷ xs) (suc i) strict low at = (
    less x xs (All-after_first string_cmp x xs strict) i (omega (arith, low)) at,
    alone xs i (sorted_tail string_cmp x xs strict) (omega (arith, low)) at,
  )

  searched : (xs : List Text) (r : Result ℕ ℕ) → IsSorted string_cmp xs → IsSearchInRange r (length xs)
      → IsBinarySearchResult (λ text. slice_cmp nat_cmp (string_bytes text) id) xs r → is_ok r ≡ is_listed (map string_bytes xs) id
  unfolding order
  searched xs (Ok i) up low at = sym (mapped xs ∙ at_place xs i low at)
  searched xs (Err i) up low sides = sym (mapped xs ∙ around xs i (sides (searchable_from_sorted nat_list_cmp_total string_bytes xs id up)))

-- a list of lines has what they have
pub lists_as : (lines sorted once : List Text) → IsPermutation lines sorted → IsFiltered (DiffersFromLast string_eq) [] sorted once
    → ListsAs (map string_bytes once) (map string_bytes lines)
lists_as lines sorted once moved filtered id = once_as id lines sorted once moved filtered

-- a search finds just what stands there
pub is_found : (id : List ℕ) (xs : List Text) (r : Result ℕ ℕ) → IsStrictlySortedBy string_cmp xs → IsSearchInRange r (length xs)
    → IsBinarySearchResult (λ text. slice_cmp nat_cmp (string_bytes text) id) xs r → is_ok r ≡ is_listed (map string_bytes xs) id
is_found id xs r up low at = searched id xs r (sorted_from_strict string_cmp_total xs up) low at

-- and only at one place
pub is_found_once : (id : List ℕ) (xs : List Text) (r : Result ℕ ℕ) → IsStrictlySortedBy string_cmp xs → IsSearchInRange r (length xs)
    → IsBinarySearchResult (λ text. slice_cmp nat_cmp (string_bytes text) id) xs r → IfOk r (StandsOnlyAt id (map string_bytes xs))
unfolding order
is_found_once id xs (Err i) up low at = tt
is_found_once id xs (Ok i) up low at = alone id xs i up low at
