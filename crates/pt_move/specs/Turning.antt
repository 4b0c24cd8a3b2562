-- One turn of a run, counted.
use Rattle.std.specs.Bool.{OnFalse}
use Rattle.std.specs.Prelude.{◌≡◌, IfErr, OnOk, ℕ, List}
use Rattle.pt_object.specs.Hasher.{HasBeenFed}
use Rattle.pt_object.specs.declared.algorithm.Algorithm.{Algorithm}
use Rattle.pt_object.specs.declared.hasher.Hasher.{Hasher}
use Rattle.pt_invariant.specs.EndLaws.{is_ended}
use Rattle.pt_plan.specs.Answer.{Answer}
use Rattle.pt_plan.specs.Run.{turning}
use Rattle.pt_plan.specs.RunFaults.{IsOfTurn}
use Rattle.pt_plan.specs.Turn.{Turn}
use Rattle.pt_plan.specs.DeviceStates.{DeviceStates}
use Rattle.pt_plan.specs.declared.phase.Phase.{Phase}
use Rattle.pt_scan.specs.Blocks.{ReadsNext}
use Rattle.pt_state.specs.Outside.{FedAfter}
use Rattle.pt_state.specs.States.{IsUnmetAfter, job_of, kept_of}
use Rattle.pt_state.specs.declared.outside.Io.{Ghosts as OfOutside}
use Rattle.pt_state.specs.declared.state.State.{State}

-- of what was held at a phase, and what is held after it, over the states of the devices. The turn is counted as it begins; the job stays
unfoldable pub CountedTurn : Phase → State → State → DeviceStates → DeviceStates → Answer → Type 0
CountedTurn here s s' old new answer =
    (s'.job ≡ s.job)
    × ((fed : List ℕ) → HasBeenFed s.job.algorithm s.hasher fed
    → (fed' : List ℕ)
    × (FedAfter answer s.job.algorithm s'.hasher fed'
    × Turn (job_of s.job) here (turning (kept_of s fed)) (kept_of s' fed') old new answer))

-- so it is over all devices as one. The faults that are the run's own are no answers; where a file is read, the block that is held is its next one;
-- the source is called no more often than this; and those of the list are unmet that the definitions have
pub record TakesCounted {O : Type 0} (of : OfOutside O) (most : ℕ × ℕ) (here : Phase)
    (old new : State × O) (answer : Answer) : Type 0 where
  pub turn : CountedTurn here old.0 new.0 (of.states old.1) (of.states new.1) answer
  pub own : IfErr answer IsOfTurn
  pub block : ReadsNext here (of.states old.1).source new.0.block.items answer
  pub few : of.within most.0 most.1 old.1 new.1
  pub unmet : OnOk answer (IsUnmetAfter here old.0 new.0)

-- until a run has ended, its hasher has been fed something
abbrev pub HasFed : Phase → Algorithm → Hasher → Type 0
HasFed here algorithm hasher = OnFalse (is_ended here) ((fed : List ℕ) × HasBeenFed algorithm hasher fed)
