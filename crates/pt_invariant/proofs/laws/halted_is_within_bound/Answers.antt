use Rattle.pt_invariant.proofs.bounds.HaltedBound.{halted_is_within_bound}
use Rattle.pt_invariant.proofs.laws.halted_is_within_bound.Goals as goal

pub returns : goal.returns
returns c = halted_is_within_bound
