use Rattle.pt_invariant.proofs.refusals.Refusing.{refuses_rightly}
use Rattle.pt_invariant.proofs.laws.refuses_rightly.Goals as goal

pub returns : goal.returns
returns c = refuses_rightly
