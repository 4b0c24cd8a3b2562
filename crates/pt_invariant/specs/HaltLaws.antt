-- What a run leaves that halts, of the destination and the log together, told against the source.
use Rattle.std.specs.Prelude.{◌≡◌, ℕ, List, Some, Err}
use Rattle.pt_tree.specs.Dest.{Writing}
use Rattle.pt_tree.specs.Source.{Reading}
use Rattle.pt_tree.specs.Tree.{Tree}
use Rattle.pt_plan.specs.Job.{Job}
use Rattle.pt_plan.specs.Run.{Kept, Run, turning}
use Rattle.pt_plan.specs.Turn.{Turn}
use Rattle.pt_plan.specs.DeviceStates.{DeviceStates}
use Rattle.pt_plan.specs.declared.fault.Fault.{Fault}
use Rattle.pt_invariant.specs.RunInvariant.{RunInvariant, Start}
use Rattle.pt_invariant.specs.FaultState.{FaultStateAndLog}

-- between any two turns of a run and after its end, where all three tell, destination and log are such as any fault may leave of the source
abbrev pub StopsLeave : Type 0
StopsLeave =
    (job : Job) (start : Start) (states : DeviceStates) (run : Run) (s : Reading) (t : Tree) (now : Writing)
    (first last : List ℕ) → RunInvariant job start states run
    → states.source ≡ Some s → start.dest ≡ Some t → states.dest ≡ Some now → start.log ≡ Some first
    → states.log ≡ Some last
    → FaultStateAndLog job s.tree t now.tree first last

-- so they are after a turn that halts the run
abbrev pub HaltsLeave : Type 0
HaltsLeave =
    (job : Job) (start : Start) (old new : DeviceStates) (run : Run) (after : Kept) (why : Fault)
    (s : Reading) (t : Tree) (now : Writing) (first last : List ℕ) → RunInvariant job start old run
    → Turn job run.phase (turning run.kept) after old new (Err why)
    → old.source ≡ Some s → start.dest ≡ Some t → new.dest ≡ Some now → start.log ≡ Some first
    → new.log ≡ Some last
    → FaultStateAndLog job s.tree t now.tree first last
