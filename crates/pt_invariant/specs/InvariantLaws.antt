-- How a run in progress begins, and what it gives.
use Rattle.std.specs.Prelude.{Ok, Err}
use Rattle.pt_name.specs.Tuples.{IsLayout}
use Rattle.pt_plan.specs.Job.{Job}
use Rattle.pt_plan.specs.Enabled.{Enabled}
use Rattle.pt_plan.specs.Run.{Kept, Run, new_run, turning}
use Rattle.pt_plan.specs.Turn.{Turn}
use Rattle.pt_plan.specs.DeviceStates.{DeviceStates}
use Rattle.pt_plan.specs.declared.fault.Fault.{Fault}
use Rattle.pt_plan.specs.declared.phase.Phase.{Phase}
use Rattle.pt_plan.specs.declared.phase.Phase.TheVariants as phase
use Rattle.pt_invariant.specs.RunInvariant.{RunInvariant, AreStates, Start, start_of}

-- a new run is in progress, whatever stands there
abbrev pub NewRunHoldsInvariant : Type 0
NewRunHoldsInvariant = (job : Job) (states : DeviceStates) → IsLayout job.tuples → AreStates states
    → RunInvariant job (start_of states) states new_run

-- the calls of the next turn may be made
abbrev pub InvariantEnables : Type 0
InvariantEnables = (job : Job) (start : Start) (states : DeviceStates) (run : Run) → RunInvariant job start states run
    → Enabled job run.phase run.kept.held states.source states.dest

-- a turn that goes on leaves the run in progress, at its next phase
abbrev pub TurnKeepsInvariant : Type 0
TurnKeepsInvariant =
    (job : Job) (start : Start) (old new : DeviceStates) (run : Run) (after : Kept) (next : Phase)
    → RunInvariant job start old run → Turn job run.phase (turning run.kept) after old new (Ok next)
    → RunInvariant job start new (record { phase = next; kept = after })

-- a turn that halts the run leaves it ended, and what is left may be kept
abbrev pub TurnEndsInvariant : Type 0
TurnEndsInvariant =
    (job : Job) (start : Start) (old new : DeviceStates) (run : Run) (after : Kept) (why : Fault)
    → RunInvariant job start old run → Turn job run.phase (turning run.kept) after old new (Err why)
    → RunInvariant job start new (record { phase = phase.Ended; kept = after })
