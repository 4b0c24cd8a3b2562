use Rattle.pt_plan.proofs.MovedIn.{roots_have_no_gaps}
use Rattle.pt_plan.proofs.laws.roots_have_no_gaps.Goals as goal

pub returns : goal.returns
returns c = roots_have_no_gaps
