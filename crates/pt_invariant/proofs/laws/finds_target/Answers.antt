use Rattle.pt_invariant.proofs.refusals.TargetFound.{finds_target}
use Rattle.pt_invariant.proofs.laws.finds_target.Goals as goal

pub returns : goal.returns
returns c = finds_target
