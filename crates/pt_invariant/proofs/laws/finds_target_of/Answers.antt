use Rattle.pt_invariant.proofs.refusals.TargetFound.{finds_target_of}
use Rattle.pt_invariant.proofs.laws.finds_target_of.Goals as goal

pub returns : goal.returns
returns c = finds_target_of
