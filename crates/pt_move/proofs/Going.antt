-- A phase at which a run goes on.
use Rattle.std.proofs.Common.{◌≡◌, ◌≢◌, false, refl}
use Rattle.pt_invariant.specs.EndLaws.{is_ended}
use Rattle.pt_state.proofs.Words.{Phase}
use Rattle.pt_state.proofs.Words.phase

pub is_going : (here : Phase) → here ≢ phase.Ended → is_ended here ≡ false
is_going phase.Ended going = absurd (going refl)
is_going _ _ = refl
