use Rattle.pt_invariant.proofs.bounds.WithinBound.{invariant_is_within_bound}
use Rattle.pt_invariant.proofs.laws.invariant_is_within_bound.Goals as goal

pub returns : goal.returns
returns c = invariant_is_within_bound
