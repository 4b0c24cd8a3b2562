use Rattle.pt_invariant.proofs.refusals.GoodStarts.{nothing_is_refused}
use Rattle.pt_invariant.proofs.laws.nothing_is_refused.Goals as goal

pub returns : goal.returns
returns c = nothing_is_refused
