-- Before the pairtree is opened nothing is told.
use Rattle.std.proofs.Common.{◌≡◌, ◌==◌, ◌+◌, ℕ, Bool, true, false, List, refl, sym, ◌∙◌, cond}
use Rattle.std.specs.Prelude.{None, Ok, nat_lt}
use Rattle.std.proofs.lemmas.Bool.{true≢false}
use Rattle.pt_plan.specs.Job.{Job}
use Rattle.pt_plan.specs.Run.{Counts, Held}
use Rattle.pt_plan.specs.Turn.{Next, Start as a_start, Walk, Scan, Make, Place}
use Rattle.pt_plan.specs.TurnMake.{MakesSidecar}
use Rattle.pt_plan.specs.TurnPlace.{MakesTuple, FindsTuple}
use Rattle.pt_plan.specs.TurnScan.{StartsInSite}
use Rattle.pt_plan.specs.TurnStart.{IsStore}
use Rattle.pt_plan.specs.TurnWalk.{OpensRoot}
use Rattle.pt_plan.specs.DeviceStates.{Calls}
use Rattle.pt_plan.specs.declared.phase.Phase.{Phase}
use Rattle.pt_plan.specs.declared.phase.Phase.TheVariants as phase
use Rattle.pt_plan.specs.declared.phase.Stage.TheVariants as stage
use Rattle.pt_invariant.specs.RunInvariant.{IsQuiet}

-- ---- the phases of the start

abbrev pub is_start : Phase → Bool
is_start (phase.Opening _) = true
is_start _ = false

-- at these the log is as it was, and elsewhere nothing is said
pub quiet_if : (here : Phase) {old now : List ℕ} → (is_start here ≡ true → now ≡ old) → IsQuiet here old now
quiet_if (phase.Opening _) same = same refl
quiet_if _ _ = tt

pub quiet_is : (here : Phase) {old now : List ℕ} → is_start here ≡ true → IsQuiet here old now → now ≡ old
quiet_is (phase.Opening _) _ is = is
quiet_is _ start is = absurd (cc)

-- ---- a turn that leads to one begins at one, and tells nothing

pub record StartsQuietly (here : Phase) (calls : Calls) : Type 0 where
  pub start : is_start here ≡ true
  pub line : calls.line ≡ None

either_later : (this : Bool) (p q : Phase) → is_start p ≡ false → is_start q ≡ false → is_start (cond this p q) ≡ false
either_later true _ _ one _ = one
either_later false _ _ _ two = two

pub follows_quietly : {job : Job} {counts : Counts} {here : Phase} {prefix : List ℕ} {held : Held} {read : List ℕ} {after : Held} {calls : Calls} {next : Phase}
    → Next job counts here prefix held read after calls (Ok next) → is_start next ≡ true → StartsQuietly here calls
follows_quietly (a_start (IsStore _ _)) _ = record { start = refl; line = refl }
follows_quietly (a_start _) _ = record { start = refl; line = refl }
follows_quietly (Walk (OpensRoot _ _)) start = absurd (cc)
follows_quietly (Scan (StartsInSite _ _ _)) start = absurd (cc)
follows_quietly {job} (Make (MakesSidecar _ object)) start = absurd (true≢false (sym start
    ∙ either_later (job.tuples.count == 0) (phase.Carrying object stage.Rename) (phase.Carrying object (stage.Tuples 0)) refl refl))
follows_quietly {job} (Place (MakesTuple _ object number)) start = absurd
    (true≢false (sym start ∙ either_later (nat_lt (number + 1) job.tuples.count) (phase.Carrying object (stage.Tuples (number + 1)))
    (phase.Carrying object stage.Rename) refl refl))
follows_quietly {job} (Place (FindsTuple _ object number)) start = absurd
    (true≢false (sym start ∙ either_later (nat_lt (number + 1) job.tuples.count) (phase.Carrying object (stage.Tuples (number + 1)))
    (phase.Carrying object stage.Rename) refl refl))
follows_quietly _ start = absurd (cc)
