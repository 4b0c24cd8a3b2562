-- No turn begins where the run has ended, and a turn whose answer halts the run tells nothing.
use Rattle.std.proofs.Common.{◌≡◌, ℕ, false, List, refl}
use Rattle.std.specs.Prelude.{None, Err}
use Rattle.pt_plan.specs.Answer.{Answer}
use Rattle.pt_plan.specs.Job.{Job}
use Rattle.pt_plan.specs.Run.{Counts, Held}
use Rattle.pt_plan.specs.Turn.{Next, Start as a_start, Walk, Scan, Make, Place}
use Rattle.pt_plan.specs.TurnMake.{ReadsMore, ReadsOther}
use Rattle.pt_plan.specs.TurnPlace.{IsInTheWay}
use Rattle.pt_plan.specs.TurnStart.{HasNoVersion}
use Rattle.pt_plan.specs.DeviceStates.{Calls}
use Rattle.pt_plan.specs.declared.fault.Fault.{Fault}
use Rattle.pt_plan.specs.declared.phase.Phase.{Phase}
use Rattle.pt_plan.specs.declared.phase.Phase.TheVariants as phase
use Rattle.pt_invariant.specs.EndLaws.{is_ended}

-- ---- where a turn begins

none_follows : {job : Job} {counts : Counts} {prefix : List ℕ} {held : Held} {read : List ℕ} {after : Held} {calls : Calls} {answer : Answer}
    → Next job counts phase.Ended prefix held read after calls answer → ⊥
none_follows (a_start turn) = elim turn [ ]
none_follows (Walk turn) = elim turn [ ]
none_follows (Scan turn) = elim turn [ ]
none_follows (Make turn) = elim turn [ ]
none_follows (Place turn) = elim turn [ ]

-- what leads to nothing at the end holds where the run goes on
pub unless_ended : (P : Phase → Type 0) (here : Phase) → (P phase.Ended → ⊥) → P here → is_ended here ≡ false
unless_ended P phase.Ended none it = absurd (none it)
unless_ended P _ _ _ = refl

pub follows_runs : {job : Job} {counts : Counts} {here : Phase} {prefix : List ℕ} {held : Held} {read : List ℕ} {after : Held} {calls : Calls} {answer : Answer}
    → Next job counts here prefix held read after calls answer → is_ended here ≡ false
follows_runs {job} {counts} {here} {prefix} {held} {read} {after} {calls} {answer} turn = unless_ended
    (λ h. Next job counts h prefix held read after calls answer) here (none_follows) turn

-- ---- what it tells

pub refused_quiet : {job : Job} {counts : Counts} {here : Phase} {prefix : List ℕ} {held : Held} {read : List ℕ} {after : Held} {calls : Calls} {why : Fault}
    → Next job counts here prefix held read after calls (Err why) → calls.line ≡ None
refused_quiet (a_start (HasNoVersion _ _ _ _)) = refl
refused_quiet (a_start _) = refl
refused_quiet (Walk turn) = elim turn [ ]
refused_quiet (Scan turn) = elim turn [ ]
refused_quiet (Make (ReadsMore _ _ _ _ _ _ _)) = refl
refused_quiet (Make (ReadsOther _ _ _ _ _ _ _)) = refl
refused_quiet (Place (IsInTheWay _ _ _ _ _)) = refl
