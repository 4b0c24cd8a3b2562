-- What the steps of a run say of the whole.
use Rattle.std.proofs.Common.{◌≡◌, inl, sym, ◌∙◌}
use Rattle.std.specs.Prelude.{Err, ◌≢◌}
use Rattle.pt_state.proofs.Words.{IsLayout, DeviceStates}
use Rattle.pt_state.proofs.Words.opening
use Rattle.pt_state.proofs.Words.phase
use Rattle.pt_invariant.specs.RunInvariant.{AreStates, start_of}
use Rattle.pt_state.specs.declared.job.Job.{Job}
use Rattle.pt_move.specs.Running.{HasBegun, IsBegun, IsNew, Running}
use Rattle.pt_move.proofs.Answering.{first_begun, is_fresh}
use Rattle.pt_move.specs.Stepping.{EndsAs}
use Rattle.pt_plan.specs.declared.fault.Fault.{Fault}
use Rattle.pt_plan.specs.declared.fault.Fault.TheVariants as fault

-- a run that is to begin hasn't ended
pub new_goes_on : (job : Job) (r : Running) → IsNew job r → r.phase ≢ phase.Ended
new_goes_on job r new ended = let both : (phase.Opening opening.Begin) ≡ phase.Ended = sym new.phase ∙ ended in absurd (cc)

-- a run that goes on isn't told that it has ended
pub not_ended : (f : Fault) (old new : Running) → old.phase ≢ phase.Ended → EndsAs old new (Err f) → f ≢ fault.Ended
not_ended f old new going ends is = absurd (going (told (rw is at ends)))
  where
    told : (old.phase ≡ phase.Ended) × (new ≡ old) → old.phase ≡ phase.Ended
    told both = both.0

-- it began where the devices stand
pub new_is_begun : (job : Job) (r : Running) (now : DeviceStates) → IsNew job r → IsLayout job.layout → AreStates now → IsBegun (start_of now) now r
new_is_begun job r now new layout is = first_begun r now new.phase (is_fresh new) (rw new.job_is layout) is

pub new_has_begun : (job : Job) (r : Running) (now : DeviceStates) → IsNew job r → HasBegun now r
unfolding HasBegun
new_has_begun job r now new = inl new.phase

pub ruleset starting = (new_is_begun, new_has_begun)
