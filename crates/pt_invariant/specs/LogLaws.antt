-- What a run leaves whose log fails.
use Rattle.std.specs.Prelude.{◌≡◌, Bool, true, false, Some, Err}
use Rattle.pt_object.specs.Holding.{IsFree}
use Rattle.pt_object.specs.Scripts.{staging}
use Rattle.pt_tree.specs.Dest.{Writing}
use Rattle.pt_plan.specs.Job.{Job}
use Rattle.pt_plan.specs.Run.{Kept, Run, turning}
use Rattle.pt_plan.specs.Turn.{Turn}
use Rattle.pt_plan.specs.DeviceStates.{DeviceStates}
use Rattle.pt_plan.specs.declared.fault.Fault.TheVariants as fault
use Rattle.pt_plan.specs.declared.phase.Phase.{Phase}
use Rattle.pt_plan.specs.declared.phase.Opening.TheVariants as opening
use Rattle.pt_plan.specs.declared.phase.Phase.TheVariants as phase
use Rattle.pt_plan.specs.declared.phase.Stage.TheVariants as stage
use Rattle.pt_invariant.specs.RunInvariant.{RunInvariant, Start}

-- the phases between what is made: at them alone a line may be told, and nothing is made of an object or of the root
abbrev pub may_tell : Phase → Bool
may_tell (phase.Opening opening.OpenRoot) = true
may_tell phase.Judge = true
may_tell (phase.Carrying object stage.Open) = true
may_tell (phase.Carrying object stage.Scan) = true
may_tell (phase.Carrying object (stage.Read bytes)) = true
may_tell (phase.Carrying object stage.Line) = true
may_tell phase.Walk = true
may_tell phase.End = true
may_tell _ = false

-- where the destination tells, nothing stands at `staging` after the log failed at such a phase
abbrev pub FailedLogLeavesNoStaging : Type 0
FailedLogLeavesNoStaging =
    (job : Job) (start : Start) (old new : DeviceStates) (run : Run) (after : Kept) (now : Writing)
    → RunInvariant job start old run → Turn job run.phase (turning run.kept) after old new (Err fault.Log)
    → may_tell run.phase ≡ true → new.dest ≡ Some now
    → IsFree now.tree staging
