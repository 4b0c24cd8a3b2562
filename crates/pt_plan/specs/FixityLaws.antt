-- What a fault leaves of a source that tells is such as is left of any source.
use Rattle.std.specs.Prelude.{◌≡◌, ℕ, List, true}
use Rattle.pt_object.specs.FilePaths.{are_apart, row_paths}
use Rattle.pt_object.specs.Object.{files_of_rows}
use Rattle.pt_object.specs.declared.rows.Row.{Row}
use Rattle.pt_tree.specs.Forest.{Forest, is_proper}
use Rattle.pt_tree.specs.Path.{Path}
use Rattle.pt_tree.specs.Tree.{Tree}
use Rattle.pt_plan.specs.Faults.{FaultState}
use Rattle.pt_plan.specs.Fixity.{DestFaultState, is_whole}
use Rattle.pt_plan.specs.GrowthLaws.{HasNoGaps}
use Rattle.pt_plan.specs.Job.{Job}
use Rattle.pt_plan.specs.Roots.{root_in}

-- objects come to free places, each whole
abbrev pub FaultsLeaveWhatIsKept : Type 0
FaultsLeaveWhatIsKept =
    (job : Job) (source : Forest) (start now : Tree) (log : List ℕ) → is_proper source ≡ true
    → HasNoGaps (root_in start) → FaultState job source start now log → DestFaultState job start now

-- an object made of rows of which none leads to another is whole, with what is held where their contents are stored
abbrev pub RowsMakeWholeObjects : Type 0
RowsMakeWholeObjects =
    (id : List ℕ) (rows : List Row) (held : Path → List ℕ) → are_apart (row_paths rows) ≡ true
    → is_whole (record { id = id; files = files_of_rows rows held }) ≡ true
