-- What a run holds after each of its turns, from the first to the last.
use Rattle.std.specs.Prelude.{◌≡◌, ◌≤◌, ℕ, List, Option, Some}
use Rattle.pt_invariant.specs.SourceInvariant.{IsWithinBound}
use Rattle.pt_move.specs.Bounds.{IsBounded}
use Rattle.pt_move.specs.Runs.{Turns}
use Rattle.pt_plan.specs.DeviceStates.{DeviceStates}
use Rattle.pt_plan.specs.Run.{Run}
use Rattle.pt_state.specs.Fields.{HoldsNothingElse}
use Rattle.pt_state.specs.States.{job_of}
use Rattle.pt_state.specs.declared.job.Job.{Job}
use Rattle.pt_state.specs.declared.state.State.{State}
use Rattle.pt_tree.specs.Forest.{Forest}
use Rattle.pt_tree.specs.Source.{tree_in}

-- where the source tells, no more is held after any of its turns than the source's bound
pub data StaysSmall (job : Job) (first : DeviceStates) : Type 0 where
  Small : ((source : Forest) → tree_in first.source ≡ Some source → (count : ℕ) (run : Run) (states : DeviceStates)
      (unmet : List (Option (List ℕ))) → Turns (job_of job) first count run states unmet
      → IsWithinBound (job_of job) source run.kept.held) → StaysSmall job first

-- after each of its turns, as far as their limit goes, the numbers are within their bounds
pub data StaysBounded (job : Job) (first : DeviceStates) : Type 0 where
  Bounded : ((count : ℕ) (run : Run) (states : DeviceStates) (unmet : List (Option (List ℕ)))
      → Turns (job_of job) first count run states unmet → count ≤ job.limits.turns
      → IsBounded (job_of job) run.phase run.kept) → StaysBounded job first

-- whatever it holds, it holds the fields that are listed, and nothing beside
pub data HoldsFieldsAlone : Type 0 where
  FieldsAlone : ((state : State) → HoldsNothingElse state) → HoldsFieldsAlone
