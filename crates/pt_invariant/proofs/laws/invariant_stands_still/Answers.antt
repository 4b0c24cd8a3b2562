use Rattle.pt_invariant.proofs.faults.StandingStill.{invariant_stands_still}
use Rattle.pt_invariant.proofs.laws.invariant_stands_still.Goals as goal

pub returns : goal.returns
returns c = invariant_stands_still
