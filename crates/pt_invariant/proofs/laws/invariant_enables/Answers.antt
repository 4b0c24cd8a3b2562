use Rattle.pt_invariant.proofs.ends.Permitted.{invariant_enables}
use Rattle.pt_invariant.proofs.laws.invariant_enables.Goals as goal

pub returns : goal.returns
returns c = invariant_enables
