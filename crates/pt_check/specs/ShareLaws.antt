-- The checks of the shares of a store do together what one check of the whole does.
use Rattle.std.specs.Prelude.{◌≡◌, ◌<◌, ◌≤◌, ◌∷◌, ◌++◌, ℕ, zero, suc, Bool, true, false, List, max, min, slice_index}
use Rattle.std.specs.Io.KnownBytes.{Appends}
use Rattle.std.specs.List.{sum_by}
use Rattle.pt_check.specs.Breakdown.{class_counts}
use Rattle.pt_check.specs.Counting.{no_numbers}
use Rattle.pt_check.specs.EndKey.{end_number}
use Rattle.pt_check.specs.Lines.{End, line_text}
use Rattle.pt_check.specs.Shares.{is_own_object}
use Rattle.pt_check.specs.Steps.{Step, counted, steps_of, steps_text, without_held}
use Rattle.pt_check.specs.Visits.{CheckState, ChecksShare, Says}
use Rattle.pt_check.specs.declared.breakdown.Breakdown.{Breakdown}
use Rattle.pt_check.specs.declared.end_key.EndKey.{EndKey}
use Rattle.pt_check.specs.declared.end_key.EndKey.TheVariants as key
use Rattle.pt_check.specs.declared.numbers.Numbers.{Numbers}
use Rattle.pt_check.specs.declared.wants.Wants.{Wants}
use Rattle.pt_name.specs.Share.{Portion}
use Rattle.pt_name.specs.declared.division.Division.{Division}
use Rattle.pt_name.specs.declared.division.Division.TheVariants as division
use Rattle.pt_plan.specs.Items.{PairtreeObject, is_ours, verdict_on_object}
use Rattle.pt_plan.specs.Job.{Job}
use Rattle.pt_plan.specs.ShareLaws.{sum_of_shares}
use Rattle.pt_tree.specs.Failures.{greatest_count}
use Rattle.pt_tree.specs.Forest.{Forest}
use Rattle.pt_tree.specs.Path.{Path}

-- a check of a share that ended well, and whose source failed at nothing, did its steps: they are counted in its numbers, and their lines stand in
-- its log, before that of the numbers
abbrev pub CheckDoesItsSteps : Type 0
CheckDoesItsSteps =
    (says : Says) (share : Portion) (wants : Wants) (tree : Forest) (numbers : Numbers) (a b : CheckState)
    → ChecksShare says share wants tree numbers a b → b.failed ≡ a.failed → a.failed < greatest_count
    → (without_held numbers ≡ without_held (counted (steps_of share wants tree) a.numbers))
    × Appends a.held b.held (steps_text (steps_of share wants tree) ++ line_text (End numbers))

-- the whole of a store, of which the same identifiers are chosen
abbrev pub whole_of : Portion → Portion
whole_of share = record share { index = 1; count = 1; division = division.Identifiers }

-- the share of this number, of so many into which the store is divided so, of which the same are chosen
abbrev pub part_of : Portion → Division → ℕ → ℕ → Portion
part_of share by count index = record share { index = index; count = count; division = by }

-- whatever is summed up of steps, what the checks of all shares do comes to what that of the whole does: each of its steps is just one
-- share's, and there is no other
abbrev pub CheckSharesDoTheWhole : Type 0
CheckSharesDoTheWhole =
    (share : Portion) (by : Division) (wants : Wants) (tree : Forest) (count : ℕ) → 1 ≤ count → (weight : Step → ℕ)
    → sum_by weight (steps_of (whole_of share) wants tree)
    ≡ sum_of_shares (λ index. sum_by weight (steps_of (part_of share by count index) wants tree)) count

-- ---- what a run does

-- the object of a site is a share's own to its check where a run of the share tells of it, by a line of any kind
abbrev pub CheckOwnsAsRun : Type 0
CheckOwnsAsRun =
    (job : Job) (prefix name : List ℕ) (names : Path) (object : PairtreeObject)
    → is_own_object job.tuples job.share prefix (name ∷ names)
    ≡ is_ours job.share (name ∷ names) (verdict_on_object job prefix (name ∷ names) object)

-- ---- the last line

-- the numbers of the last line of a check of a share, where nothing in the store fails
abbrev pub numbers_of : Portion → Wants → Forest → Numbers
numbers_of share wants tree = counted (steps_of share wants tree) no_numbers

-- what a key counts adds up: all but the largest object and the longest path
abbrev pub adds_up : EndKey → Bool
adds_up key.Largest = false
adds_up key.Longest = false
adds_up _ = true

-- the most of what the shares 1 to `count` have
abbrev pub max_of_shares : (ℕ → ℕ) → ℕ → ℕ
max_of_shares f zero = 0
max_of_shares f (suc count) = max (max_of_shares f count) (f (suc count))

-- what is counted of the whole is what all shares count together, up to the greatest count; its largest object and its longest path are those
-- of some share, and of none are there larger ones
pub record AddUp (share : Portion) (by : Division) (wants : Wants) (tree : Forest) (count : ℕ) : Type 0 where
  pub keys : (key : EndKey) → adds_up key ≡ true
      → end_number (numbers_of (whole_of share) wants tree) key
      ≡ min (sum_of_shares (λ index. end_number (numbers_of (part_of share by count index) wants tree) key) count) greatest_count
  pub classes : (breakdown : Breakdown) (class : ℕ)
      → slice_index (class_counts (numbers_of (whole_of share) wants tree) breakdown) class
      ≡ min
      (sum_of_shares (λ index. slice_index (class_counts (numbers_of (part_of share by count index) wants tree) breakdown) class) count)
      greatest_count
  pub largest : (numbers_of (whole_of share) wants tree).largest
      ≡ max_of_shares (λ index. (numbers_of (part_of share by count index) wants tree).largest) count
  pub longest : (numbers_of (whole_of share) wants tree).longest
      ≡ max_of_shares (λ index. (numbers_of (part_of share by count index) wants tree).longest) count

-- so it is of each store, over any number of shares
abbrev pub CheckSharesAddUp : Type 0
CheckSharesAddUp =
    (share : Portion) (by : Division) (wants : Wants) (tree : Forest) (count : ℕ) → 1 ≤ count → AddUp share by wants tree count
