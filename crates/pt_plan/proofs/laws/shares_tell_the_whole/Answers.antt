use Rattle.pt_plan.proofs.SharedItems.{shares_tell_the_whole}
use Rattle.pt_plan.proofs.laws.shares_tell_the_whole.Goals as goal

pub returns : goal.returns
returns c = shares_tell_the_whole
