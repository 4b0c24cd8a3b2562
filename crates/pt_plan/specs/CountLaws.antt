-- The numbers of a run's lines are numbers of its items.
use Rattle.std.specs.Prelude.{◌≡◌, ◌+◌, ℕ, Bool, true, false, ◌&&◌, Some, count_by, is_some, length, not, slice_get, suc, take}
use Rattle.pt_tree.specs.Forest.{Forest}
use Rattle.pt_tree.specs.Tree.{Tree}
use Rattle.pt_plan.specs.Carried.{Marked, all_carried, carried_among, marked}
use Rattle.pt_plan.specs.Items.{Interior, Named, Skip, Verdict, cause_of}
use Rattle.pt_plan.specs.Job.{Job}
use Rattle.pt_plan.specs.Lines.{End, Line, all_lines, end_line, is_done, is_present, is_skipped, line_of, lines}

-- the item is passed over, or its place isn't taken and there is a cause against its object
abbrev pub is_verdict_passed_over : Job → Bool → Verdict → Bool
is_verdict_passed_over job taken Interior = false
is_verdict_passed_over job taken (Skip why) = true
is_verdict_passed_over job taken (Named id object) = not taken && is_some (cause_of job.limits object)

-- the item has a line of what was passed over
abbrev pub is_passed_over : Job → Marked → Bool
is_passed_over job m = is_verdict_passed_over job m.1 m.0.verdict

-- of the first items: how many are carried, how many places are taken, and how many are passed over
abbrev pub LinesTellNumbers : Type 0
LinesTellNumbers =
    (job : Job) (source : Forest) (root : Tree) (k : ℕ)
    → end_line (lines job source root k)
    ≡ End (length (carried_among job source root k))
    (count_by (λ m. m.1) (take k (marked job source root)))
    (count_by (is_passed_over job) (take k (marked job source root)))

-- so the end line tells them of all items
abbrev pub EndLineTellsNumbers : Type 0
EndLineTellsNumbers =
    (job : Job) (source : Forest) (root : Tree)
    → end_line (all_lines job source root)
    ≡ End (length (all_carried job source root)) (count_by (λ m. m.1) (marked job source root))
    (count_by (is_passed_over job) (marked job source root))

-- each line is counted once
abbrev pub EachLineIsCounted : Type 0
EachLineIsCounted =
    (job : Job) (source : Forest) (root : Tree) (k : ℕ)
    → length (lines job source root k)
    ≡ count_by is_done (lines job source root k) + count_by is_present (lines job source root k)
    + count_by is_skipped (lines job source root k)

-- with one item more, each number grows by that of the item's line
abbrev pub CountsGrow : Type 0
CountsGrow =
    (job : Job) (source : Forest) (root : Tree) (k : ℕ) (m : Marked) (test : Line → Bool)
    → slice_get (marked job source root) k ≡ Some m
    → count_by test (lines job source root (suc k))
    ≡ count_by test (lines job source root k) + count_by test (line_of job m)
