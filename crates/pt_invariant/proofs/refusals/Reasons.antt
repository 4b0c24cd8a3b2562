-- What a turn halts a run for: what a device answered, or a device that failed; never what is the run's own.
use Rattle.std.proofs.Common.{◌≡◌, Bool, true, false, List, refl, inl, inr, ℕ}
use Rattle.std.specs.Prelude.{Err, ◌⊎◌}
use Rattle.pt_plan.specs.Job.{Job}
use Rattle.pt_plan.specs.Run.{Counts, Held, Kept}
use Rattle.pt_plan.specs.RunFaults.{IsOfTurn}
use Rattle.pt_plan.specs.Turn.{
  FailsAtFirst,
  FailsLater,
  Next,
  HasFailed,
  IsRefused,
  FailsPartway,
  Make,
  Place,
  Scan,
  Start as a_start,
  FailsUnchanged,
  Turn,
  Walk,
}
use Rattle.pt_plan.specs.TurnMake.{ReadsMore, ReadsOther}
use Rattle.pt_plan.specs.TurnPlace.{IsInTheWay}
use Rattle.pt_plan.specs.TurnStart.{HasNoVersion}
use Rattle.pt_plan.specs.DeviceStates.{Calls, Failures, DeviceStates}
use Rattle.pt_plan.specs.declared.fault.Fault.{Fault}
use Rattle.pt_plan.specs.declared.fault.Fault.TheVariants as fault
use Rattle.pt_plan.specs.declared.phase.Phase.{Phase}

-- what a device answered
abbrev is_refusal : Fault → Bool
is_refusal fault.NotPairtree = true
is_refusal fault.Prefix = true
is_refusal fault.StagingLeft = true
is_refusal fault.Target = true
is_refusal fault.Changed = true
is_refusal _ = false

follows_for : {job : Job} {counts : Counts} {here : Phase} {prefix : List ℕ} {held : Held} {read : List ℕ} {new : Held} {calls : Calls} {why : Fault}
    → Next job counts here prefix held read new calls (Err why) → is_refusal why ≡ true
follows_for (a_start (HasNoVersion _ _ _ _)) = refl
follows_for (a_start _) = refl
follows_for (Walk turn) = elim turn [ ]
follows_for (Scan turn) = elim turn [ ]
follows_for (Make (ReadsMore _ _ _ _ _ _ _)) = refl
follows_for (Make (ReadsOther _ _ _ _ _ _ _)) = refl
follows_for (Place (IsInTheWay _ _ _ _ _)) = refl

-- or a device that failed
pub halts_for : {job : Job} {here : Phase} {before after : Kept} {old new : DeviceStates} {why : Fault} → Turn job here before after old new (Err why)
    → (is_refusal why ≡ true) ⊎ HasFailed why old.failures new.failures
unfolding FailsUnchanged FailsPartway
halts_for (IsRefused _ _ _ _ turn _ _) = inl (follows_for turn)
halts_for (FailsAtFirst _ stays _) = inr stays.3
halts_for (FailsLater _ _ _ _ _ _ _ leaves _ _) = inr leaves.1

refused_of_turn : (why : Fault) → is_refusal why ≡ true → IsOfTurn why
refused_of_turn fault.Turns is = absurd (cc)
refused_of_turn fault.Ended is = absurd (cc)
refused_of_turn _ _ = tt

failed_of_turn : (why : Fault) (old new : Failures) → HasFailed why old new → IsOfTurn why
failed_of_turn fault.Turns _ _ it = absurd (it)
failed_of_turn fault.Ended _ _ it = absurd (it)
failed_of_turn _ _ _ _ = tt

-- the limit of turns, and that a run has ended, are no answers of a turn
pub of_turn : {job : Job} {here : Phase} {before after : Kept} {old new : DeviceStates} {why : Fault} → Turn job here before after old new (Err why)
    → IsOfTurn why
of_turn {why} turn = elim (halts_for turn) [
  | inl refused ↦ refused_of_turn why refused
  | inr failed ↦ failed_of_turn why _ _ failed
]
