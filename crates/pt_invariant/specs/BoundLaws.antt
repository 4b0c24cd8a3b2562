-- What a run holds that was halted.
use Rattle.std.specs.Prelude.{◌≡◌, false, Some, Err}
use Rattle.pt_tree.specs.Source.{Reading}
use Rattle.pt_plan.specs.Answer.{Answer}
use Rattle.pt_plan.specs.Job.{Job}
use Rattle.pt_plan.specs.Run.{Kept, Run, turning}
use Rattle.pt_plan.specs.Turn.{Turn}
use Rattle.pt_plan.specs.DeviceStates.{DeviceStates}
use Rattle.pt_plan.specs.declared.fault.Fault.{Fault}
use Rattle.pt_invariant.specs.RunInvariant.{RunInvariant, Start}
use Rattle.pt_invariant.specs.SourceInvariant.{IsWithinBound}
use Rattle.pt_invariant.specs.EndLaws.{is_ended}

-- after a turn that halts the run no more is held than the source's bound, where the source told before it
abbrev pub HaltedIsWithinBound : Type 0
HaltedIsWithinBound =
    (job : Job) (start : Start) (old new : DeviceStates) (run : Run) (after : Kept) (why : Fault)
    (s : Reading) → RunInvariant job start old run → is_ended run.phase ≡ false
    → Turn job run.phase (turning run.kept) after old new (Err why) → old.source ≡ Some s
    → IsWithinBound job s.tree after.held

-- so it is after any turn
abbrev pub TurnIsWithinBound : Type 0
TurnIsWithinBound =
    (job : Job) (start : Start) (old new : DeviceStates) (run : Run) (after : Kept) (answer : Answer)
    (s : Reading) → RunInvariant job start old run → is_ended run.phase ≡ false
    → Turn job run.phase (turning run.kept) after old new answer → old.source ≡ Some s
    → IsWithinBound job s.tree after.held
