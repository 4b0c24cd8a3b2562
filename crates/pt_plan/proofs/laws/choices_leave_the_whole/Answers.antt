use Rattle.pt_plan.proofs.SharedRoots.{choices_leave_the_whole}
use Rattle.pt_plan.proofs.laws.choices_leave_the_whole.Goals as goal

pub returns : goal.returns
returns c = choices_leave_the_whole
