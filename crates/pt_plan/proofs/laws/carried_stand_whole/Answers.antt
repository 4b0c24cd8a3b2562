use Rattle.pt_plan.proofs.WholeObjects.{carried_stand_whole}
use Rattle.pt_plan.proofs.laws.carried_stand_whole.Goals as goal

pub returns : goal.returns
returns c = carried_stand_whole
