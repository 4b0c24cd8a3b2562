use Rattle.pt_invariant.proofs.held.HeldKeeps.{places_hold}
use Rattle.pt_invariant.proofs.laws.placing_keeps_held.Goals as goal

pub returns : goal.returns
returns c = places_hold
