-- What a run that ends with a fault may leave in its destination and its log.
use Rattle.std.specs.Prelude.{◌≡◌, ◌≤◌, ◌==◌, ◌⊎◌, ℕ, zero, suc, cond, List, [], ◌∷◌, ◌++◌, Some, length, slice_get, take}
use Rattle.pt_object.specs.Holding.{IsFree}
use Rattle.pt_object.specs.Script.{StandsAtPrefix}
use Rattle.pt_object.specs.Scripts.{root_script, script_of, staging}
use Rattle.pt_tree.specs.Forest.{Forest}
use Rattle.pt_tree.specs.Tree.{Tree}
use Rattle.pt_plan.specs.Carried.{Carried, Marked, after, carried_by, marked}
use Rattle.pt_plan.specs.Items.{items}
use Rattle.pt_plan.specs.Job.{Job}
use Rattle.pt_plan.specs.Lines.{log_of, text}
use Rattle.pt_plan.specs.Roots.{root_in, tuple_folders, with_folders, with_root}

-- ---- the log

-- the text begins with this
abbrev pub BeginsWith : List ℕ → List ℕ → Type 0
BeginsWith front whole = (rest : List ℕ) × (whole ≡ front ++ rest)

-- the most that a log holds after k items: their lines, and after all items the end line too
abbrev pub most_told : Job → Forest → Tree → ℕ → List ℕ
most_told job source root k =
    cond (length (items job source) == k) (log_of job source root) (text job source root k)

-- what a log may hold after k items: nothing before the first; then the lines of all but the last of them, with some of what comes next
abbrev pub IsLogAfter : Job → Forest → Tree → ℕ → List ℕ → Type 0
IsLogAfter job source root zero log = log ≡ []
IsLogAfter job source root (suc k) log =
    BeginsWith (text job source root k) log × BeginsWith log (most_told job source root (suc k))

-- ---- the destination

-- the item of this number is carried as this object
abbrev pub IsCarriedAs : Job → Forest → Tree → ℕ → Carried → Type 0
IsCarriedAs job source root k object = (m : Marked)
    × (slice_get (marked job source root) k ≡ Some m)
    × (carried_by job m.1 m.0.verdict ≡ object ∷ [])

-- the root after k items, with some of the first tuple directories of the object that comes next
abbrev pub on_the_way_to : Job → Forest → Tree → ℕ → Carried → ℕ → Tree
on_the_way_to job source root k object tuples =
    with_folders (take tuples (tuple_folders job object)) (after job source root k)

-- what a fault leaves of a start, and what was told: all as it was; a part of a new root in `staging`, nothing told; the root after k items, with the
-- lines of all but the last of them and some of what comes next; or that and, of an object that is carried next, some tuple directories and a part of
-- its script in `staging`
pub data FaultStateOfFree (job : Job) (source : Forest) (start : Tree) : Tree → List ℕ → Type 0 where
  AsItWas : FaultStateOfFree job source start start []
  MakingRoot : (now : Tree) → IsFree (root_in start) []
      → StandsAtPrefix (root_script job.tuples) start now → FaultStateOfFree job source start now []
  Between : (k : ℕ) (log : List ℕ) → k ≤ length (items job source)
      → IsLogAfter job source (root_in start) k log
      → FaultStateOfFree job source start (with_root start (after job source (root_in start) k)) log
  Carrying : (k tuples : ℕ) (object : Carried) (now : Tree) (log : List ℕ)
      → IsCarriedAs job source (root_in start) k object
      → IsLogAfter job source (root_in start) k log
      → StandsAtPrefix (script_of object.id object.files job.meta job.algorithm)
      (with_root start (on_the_way_to job source (root_in start) k object tuples)) now
      → FaultStateOfFree job source start now log

-- nothing was changed, and nothing told
abbrev pub IsUntouched : Tree → Tree → List ℕ → Type 0
IsUntouched start now log = (now ≡ start) × (log ≡ [])

-- what any fault may leave; where something stands at `staging`, all as it was
abbrev pub FaultState : Job → Forest → Tree → Tree → List ℕ → Type 0
FaultState job source start now log =
    IsUntouched start now log ⊎ (IsFree start staging × FaultStateOfFree job source start now log)
