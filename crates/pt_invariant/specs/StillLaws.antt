-- What stood in the destination at the start stands, whatever a run does and however it ends.
use Rattle.std.specs.Prelude.{◌≡◌, ◌⊎◌, true, None, Some, is_some}
use Rattle.pt_object.specs.Holding.{IsFree}
use Rattle.pt_object.specs.Scripts.{staging}
use Rattle.pt_tree.specs.Dest.{Writing}
use Rattle.pt_tree.specs.Path.{Path, rest_below}
use Rattle.pt_tree.specs.Tree.{Entry, IsTree, Tree}
use Rattle.pt_plan.specs.Job.{Job}
use Rattle.pt_plan.specs.Roots.{storage_root}
use Rattle.pt_plan.specs.Run.{Run}
use Rattle.pt_plan.specs.DeviceStates.{DeviceStates}
use Rattle.pt_invariant.specs.RunInvariant.{RunInvariant, Start}
use Rattle.pt_invariant.specs.DestInvariant.{DestFaultStateOfRun}

-- the path is one where something new may stand: `ocfl` or below it, or, if nothing stood at `staging`, that or below it
abbrev pub IsForNew : Tree → Path → Type 0
IsForNew start path = (is_some (rest_below storage_root path) ≡ true)
    ⊎ (IsFree start staging × (is_some (rest_below staging path) ≡ true))

-- what stood stands; what is new stands at `ocfl` or below it, or at `staging` or below it where nothing stood there
pub record StandsStill (start now : Tree) : Type 0 where
  -- what stood stands, with what it held
  pub stays : (path : Path) (entry : Entry) → start path ≡ Some entry → now path ≡ Some entry
  -- what is new stands only where it may
  pub new : (path : Path) → start path ≡ None → is_some (now path) ≡ true → IsForNew start path

-- so it is with whatever a run leaves that has ended
abbrev pub LeftBehindStandsStill : Type 0
LeftBehindStandsStill = (job : Job) (start : Tree) (now : Writing) → IsTree start
    → DestFaultStateOfRun job start now → StandsStill start now.tree

-- and between any two turns
abbrev pub InvariantStandsStill : Type 0
InvariantStandsStill = (job : Job) (start : Start) (states : DeviceStates) (run : Run) (t : Tree)
    (now : Writing) → RunInvariant job start states run → start.dest ≡ Some t → states.dest ≡ Some now
    → StandsStill t now.tree
