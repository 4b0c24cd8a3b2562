use Rattle.pt_invariant.proofs.bounds.TurnBound.{turn_is_within_bound}
use Rattle.pt_invariant.proofs.laws.turn_is_within_bound.Goals as goal

pub returns : goal.returns
returns c = turn_is_within_bound
