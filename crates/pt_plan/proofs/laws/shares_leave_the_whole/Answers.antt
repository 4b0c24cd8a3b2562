use Rattle.pt_plan.proofs.SharedRoots.{shares_leave_the_whole}
use Rattle.pt_plan.proofs.laws.shares_leave_the_whole.Goals as goal

pub returns : goal.returns
returns c = shares_leave_the_whole
