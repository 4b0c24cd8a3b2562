-- What a step of a survey promises, whatever number of items was seen before it.
use Rattle.std.specs.Prelude.{ℕ, IfOk, List, OnErr, Option, Result}
use Rattle.std.specs.Option.{ForSome}
use Rattle.pt_audit.specs.Surveying.{GoesOn, IsSurvey, StopsAt}
use Rattle.pt_move.specs.Running.{Running}
use Rattle.pt_plan.specs.declared.fault.Fault.{Fault}
use Rattle.pt_plan.specs.declared.phase.Phase.{Phase}
use Rattle.pt_state.specs.States.{job_of}
use Rattle.pt_state.specs.declared.state.State.{State}
use Rattle.pt_tree.specs.Source.{Reading, tree_in}

-- a survey that stands at this phase
abbrev pub standing : Phase → State → Running
standing here s = record { phase = here; state = s }

-- a step that goes well leads on to the survey that its answer says; before and after it source and log tell this
abbrev pub MovesOn : {T : Type 0} → Option Reading × Option (List ℕ) → Option Reading × Option (List ℕ) → Running → (T → Running)
    → Result T Fault → Type 0
MovesOn old new before after result =
    (count : ℕ) → IsSurvey old.0 count before → IfOk result (λ x. GoesOn old new count before (after x))

-- one that breaks off leaves the log with nothing more, or a front of the line of what it passes over
abbrev pub BreaksOff : {T : Type 0} → Option Reading → Running → Option (List ℕ) → Option (List ℕ) → Result T Fault → Type 0
BreaksOff told before old new result =
    (count : ℕ) → IsSurvey told count before
    → OnErr result (ForSome (tree_in told) (λ s. StopsAt (job_of before.state.job) s count before.phase old new))
