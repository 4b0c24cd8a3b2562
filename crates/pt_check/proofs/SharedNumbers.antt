-- The numbers of the checks of all shares of a store add up to those of the whole.
use Rattle.std.proofs.Common.{
  ◌≡◌,
  ◌≤◌,
  ◌+◌,
  ◌∙◌,
  ℕ,
  zero,
  suc,
  Bool,
  true,
  false,
  cond,
  List,
  [],
  ◌∷◌,
  arith,
  ap,
  min,
  refl,
  sym,
}
use Rattle.std.proofs.lemmas.Bool.{eqb-false, eqb-true, ltb-false, ltb-true}
use Rattle.std.proofs.lemmas.List.{get_or_past, get_or-replicate, length-replicate}
use Rattle.std.proofs.lemmas.List.Sums.{sum_by-cons}
use Rattle.std.specs.List.{sum_by}
use Rattle.std.specs.Prelude.{◌==◌, max, nat_lt, replicate, slice_index}
use Rattle.pt_check.proofs.SharedSteps.{check_shares_do_the_whole}
use Rattle.pt_check.proofs.StepAmounts.{
  Fits,
  Small,
  amounts,
  largest_is,
  length_of,
  longest_is,
  most_by,
  size_of,
  step_adds,
  then_fits,
  then_small,
}
use Rattle.pt_check.specs.Counting.{no_numbers, plus}
use Rattle.pt_check.specs.LineKind.{kind_number}
use Rattle.pt_check.specs.ShareLaws.{CheckSharesAddUp, adds_up, max_of_shares, numbers_of, part_of, whole_of}
use Rattle.pt_check.specs.Breakdown.{class_counts}
use Rattle.pt_check.specs.EndKey.{end_number}
use Rattle.pt_check.specs.Steps.{Step, counted, counted_by, steps_of}
use Rattle.pt_check.specs.declared.breakdown.Breakdown.{Breakdown}
use Rattle.pt_check.specs.declared.breakdown.Breakdown.TheVariants as breakdown
use Rattle.pt_check.specs.declared.end_key.EndKey.{EndKey}
use Rattle.pt_check.specs.declared.end_key.EndKey.TheVariants as key
use Rattle.pt_check.specs.declared.numbers.Numbers.{Numbers}
use Rattle.pt_check.specs.declared.wants.Wants.{Wants}
use Rattle.pt_name.specs.Share.{Portion}
use Rattle.pt_name.specs.declared.division.Division.{Division}
use Rattle.pt_plan.proofs.ShareSums.{sum_of_none, sums_within}
use Rattle.pt_plan.specs.ShareLaws.{IsOneOf, sum_of_shares}
use Rattle.pt_tree.specs.Failures.{greatest_count}
use Rattle.pt_tree.specs.Forest.{Forest}

-- ---- sums

abbrev Sums : (Numbers → ℕ) → (Step → ℕ) → Type 0
Sums f w = (n : Numbers) → Small n → Fits n → (step : Step) → f (counted_by step n) ≡ plus (f n) (w step)

summed : (f : Numbers → ℕ) (w : Step → ℕ) → Sums f w → (steps : List Step) (n : Numbers) → Small n → Fits n → f n ≤ greatest_count
    → f (counted steps n) ≡ min (f n + sum_by w steps) greatest_count
summed f w sums [] n small fits few = omega (arith, few)
summed f w sums (step ∷ steps) n small fits few =
    let one = sums n small fits step in
    let rest = summed f w sums steps (counted_by step n) (then_small n small fits step) (then_fits n small fits step) (omega (arith, one)) in
    let more = sum_by-cons w step steps in
    omega (arith, one, rest, more)

-- what is capped and then summed up is as much as what is summed up first
capped : (a : ℕ → ℕ) (count : ℕ)
    → min (sum_of_shares (λ index. min (a index) greatest_count) count) greatest_count ≡ min (sum_of_shares a count) greatest_count
capped a zero = refl
capped a (suc count) = let front = capped a count in omega (arith, front)

-- ---- the most

over : ℕ → (Step → ℕ) → Step → ℕ
over m w step = cond (nat_lt m (w step)) 1 0

most_of : (f : Numbers → ℕ) (w : Step → ℕ) → ((step : Step) (n : Numbers) → f (counted_by step n) ≡ max (f n) (w step)) → (steps : List Step) (n : Numbers)
    → f (counted steps n) ≡ max (f n) (most_by w steps)
most_of f w is [] n = omega arith
most_of f w is (step ∷ steps) n =
    let one = is step n in
    let rest = most_of f w is steps (counted_by step n) in
    omega (arith, one, rest)

none_over : (m : ℕ) (w : Step → ℕ) (steps : List Step) → most_by w steps ≤ m → sum_by (over m w) steps ≡ 0
unfolding over
none_over m w [] few = refl
none_over m w (step ∷ steps) few = sum_by-cons (over m w) step steps ∙ by (nat_lt m (w step)) refl (none_over m w steps (omega (arith, few)))
  where
    by : (t : Bool) → nat_lt m (w step) ≡ t → sum_by (over m w) steps ≡ 0 → cond t 1 0 + sum_by (over m w) steps ≡ 0
    by true is rest = let more = ltb-true m (w step) is in absurd (omega (arith, few, more))
    by false is rest = omega (arith, rest)

over_none : (m : ℕ) (w : Step → ℕ) (steps : List Step) → sum_by (over m w) steps ≡ 0 → most_by w steps ≤ m
unfolding over
over_none m w [] none = omega arith
over_none m w (step ∷ steps) none = by (nat_lt m (w step)) refl (sym (sum_by-cons (over m w) step steps) ∙ none) (λ e. over_none m w steps e)
  where
    by : (t : Bool) → nat_lt m (w step) ≡ t → cond t 1 0 + sum_by (over m w) steps ≡ 0 → (sum_by (over m w) steps ≡ 0 → most_by w steps ≤ m)
        → max (w step) (most_by w steps) ≤ m
    by true is none on = absurd (omega (arith, none))
    by false is none on = let few = ltb-false m (w step) is in let rest = on (omega (arith, none)) in omega (arith, few, rest)

most_within : (f : ℕ → ℕ) (count index : ℕ) → IsOneOf count index → f index ≤ max_of_shares f count
most_within f zero index one = let first = one.first in let last = one.last in absurd (omega (arith, first, last))
most_within f (suc count) index one = by (index == suc count) refl (λ within. most_within f count index within)
  where
    by : (t : Bool) → (index == suc count) ≡ t → (IsOneOf count index → f index ≤ max_of_shares f count)
        → f index ≤ max (max_of_shares f count) (f (suc count))
    by true is on = let same = ap f (eqb-true index (suc count) is) in omega (arith, same)
    by false is on =
        let apart = eqb-false index (suc count) is in
        let first = one.first in
        let last = one.last in
        let rest = on (record { first = first; last = omega (arith, last, apart) }) in
        omega (arith, rest)

most_below : (f : ℕ → ℕ) (count m : ℕ) → ((index : ℕ) → IsOneOf count index → f index ≤ m) → max_of_shares f count ≤ m
most_below f zero m few = omega arith
most_below f (suc count) m few =
    let rest = most_below f count m (λ index one. few index (record { first = one.first; last = let last = one.last in omega (arith, last) })) in
    let last = few (suc count) (record { first = omega arith; last = omega arith }) in
    omega (arith, rest, last)

sum_none : (f : ℕ → ℕ) (count : ℕ) → sum_of_shares f count ≡ 0 → (index : ℕ) → IsOneOf count index → f index ≡ 0
sum_none f zero none index one = let first = one.first in let last = one.last in absurd (omega (arith, first, last))
sum_none f (suc count) none index one = by (index == suc count) refl (λ within. sum_none f count (omega (arith, none)) index within)
  where
    by : (t : Bool) → (index == suc count) ≡ t → (IsOneOf count index → f index ≡ 0) → f index ≡ 0
    by true is on = let same = ap f (eqb-true index (suc count) is) in omega (arith, same, none)
    by false is on =
        let apart = eqb-false index (suc count) is in
        let first = one.first in
        let last = one.last in
        on (record { first = first; last = omega (arith, last, apart) })

-- ---- nothing is counted yet

zeros : (n i : ℕ) → slice_index (replicate n 0) i ≡ 0
zeros n i = by (nat_lt i n) refl
  where
    by : (t : Bool) → nat_lt i n ≡ t → slice_index (replicate n 0) i ≡ 0
    by true is = get_or-replicate n i 0 0 (ltb-true i n is)
    by false is = get_or_past (replicate n 0) i 0 (let past = ltb-false i n is in let long = length-replicate {A = ℕ} n 0 in omega (arith, past, long))

few_zeros : (n i : ℕ) → slice_index (replicate n 0) i ≤ greatest_count
few_zeros n i = let none = zeros n i in omega (arith, none)

small_none : Small no_numbers
small_none = record {
  told = omega arith;
  sites = omega arith;
  objects = omega arith;
  folders = omega arith;
  files = omega arith;
  bytes = omega arith;
  renamed = omega arith;
  kinds = few_zeros 21;
  sites_at = few_zeros 33;
  objects_at = few_zeros 33;
  files_of = few_zeros 21;
  bytes_of = few_zeros 21;
}

fits_none : Fits no_numbers
fits_none = (refl, refl, refl, refl, refl)

-- ---- the shares

module _ (share : Portion) (by : Division) (wants : Wants) (tree : Forest) (count : ℕ) (some : 1 ≤ count) where
  abbrev steps : ℕ → List Step
  steps index = steps_of (part_of share by count index) wants tree

  abbrev all_steps : List Step
  all_steps = steps_of (whole_of share) wants tree

  field_sum : (f : Numbers → ℕ) (w : Step → ℕ) → Sums f w → f no_numbers ≡ 0
      → f (numbers_of (whole_of share) wants tree)
      ≡ min (sum_of_shares (λ index. f (numbers_of (part_of share by count index) wants tree)) count) greatest_count
  field_sum f w sums none =
      let few : f no_numbers ≤ greatest_count = omega (arith, none) in
      let whole = summed f w sums all_steps no_numbers small_none fits_none few in
      let each = sums_within {f = λ index. f (numbers_of (part_of share by count index) wants tree)}
      {g = λ index. min (sum_by w (steps index)) greatest_count} count
      (λ index one. let it = summed f w sums (steps index) no_numbers small_none fits_none few in omega (arith, it, none)) in
      let together = check_shares_do_the_whole share by wants tree count some w in
      let cap = capped (λ index. sum_by w (steps index)) count in
      omega (arith, whole, none, each, together, cap)

  field_most : (f : Numbers → ℕ) (w : Step → ℕ) → ((step : Step) (n : Numbers) → f (counted_by step n) ≡ max (f n) (w step)) → f no_numbers ≡ 0
      → f (numbers_of (whole_of share) wants tree) ≡ max_of_shares (λ index. f (numbers_of (part_of share by count index) wants tree)) count
  field_most f w is none =
      let g = λ (index : ℕ). f (numbers_of (part_of share by count index) wants tree) in
      let whole = most_of f w is all_steps no_numbers in
      let each = λ (index : ℕ). most_of f w is (steps index) no_numbers in
      let m = most_by w all_steps in
      let t = max_of_shares g count in
      let up : m ≤ t = over_none t w all_steps (check_shares_do_the_whole share by wants tree count some (over t w)
      ∙ sum_of_none count (λ index first last.
      let one = most_within g count index (record { first = first; last = last }) in
      let it = each index in
      none_over t w (steps index) (omega (arith, one, it, none)))) in
      let down : t ≤ m = most_below g count m (λ index one.
      let nothing = sum_none (λ i. sum_by (over m w) (steps i)) count
      (sym (check_shares_do_the_whole share by wants tree count some (over m w)) ∙ none_over m w all_steps (omega arith)) index one in
      let few = over_none m w (steps index) nothing in
      let it = each index in
      omega (arith, few, it, none)) in
      omega (arith, whole, none, up, down)

  keys_add : (k : EndKey) → adds_up k ≡ true
      → end_number (numbers_of (whole_of share) wants tree) k
      ≡ min (sum_of_shares (λ index. end_number (numbers_of (part_of share by count index) wants tree) k) count) greatest_count
  keys_add key.Bytes is = field_sum (λ n. n.bytes) (λ s. (amounts s).bytes) (λ n small fits step. (step_adds n small fits step).5) refl
  keys_add key.Files is = field_sum (λ n. n.files) (λ s. (amounts s).files) (λ n small fits step. (step_adds n small fits step).4) refl
  keys_add key.Folders is = field_sum (λ n. n.folders) (λ s. (amounts s).folders) (λ n small fits step. (step_adds n small fits step).3) refl
  keys_add key.Largest is = absurd (cc)
  keys_add key.Longest is = absurd (cc)
  keys_add key.Objects is = field_sum (λ n. n.objects) (λ s. (amounts s).objects) (λ n small fits step. (step_adds n small fits step).2) refl
  keys_add key.Renamed is = field_sum (λ n. n.renamed) (λ s. (amounts s).renamed) (λ n small fits step. (step_adds n small fits step).6) refl
  keys_add key.Sites is = field_sum (λ n. n.sites) (λ s. (amounts s).sites) (λ n small fits step. (step_adds n small fits step).1) refl
  keys_add key.Told is = field_sum (λ n. n.told) (λ s. (amounts s).told) (λ n small fits step. (step_adds n small fits step).0) refl
  keys_add (key.Kind what) is = let at = kind_number what in
      field_sum (λ n. slice_index n.kinds at) (λ s. (amounts s).kinds at) (λ n small fits step. (step_adds n small fits step).7 at) (zeros 21 at)

  classes_add : (b : Breakdown) (class : ℕ)
      → slice_index (class_counts (numbers_of (whole_of share) wants tree) b) class
      ≡ min (sum_of_shares (λ index. slice_index (class_counts (numbers_of (part_of share by count index) wants tree) b) class) count) greatest_count
  classes_add breakdown.BytesOf class = field_sum (λ n. slice_index n.bytes_of class) (λ s. (amounts s).bytes_of class)
      (λ n small fits step. (step_adds n small fits step).11 class) (zeros 21 class)
  classes_add breakdown.FilesOf class = field_sum (λ n. slice_index n.files_of class) (λ s. (amounts s).files_of class)
      (λ n small fits step. (step_adds n small fits step).10 class) (zeros 21 class)
  classes_add breakdown.ObjectsAt class = field_sum (λ n. slice_index n.objects_at class) (λ s. (amounts s).objects_at class)
      (λ n small fits step. (step_adds n small fits step).9 class) (zeros 33 class)
  classes_add breakdown.SitesAt class = field_sum (λ n. slice_index n.sites_at class) (λ s. (amounts s).sites_at class)
      (λ n small fits step. (step_adds n small fits step).8 class) (zeros 33 class)

pub check_shares_add_up : CheckSharesAddUp
check_shares_add_up share by wants tree count some = record {
  keys = keys_add share by wants tree count some;
  classes = classes_add share by wants tree count some;
  largest = field_most share by wants tree count some (λ n. n.largest) size_of largest_is refl;
  longest = field_most share by wants tree count some (λ n. n.longest) length_of longest_is refl;
}
