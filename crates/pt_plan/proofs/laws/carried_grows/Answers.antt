use Rattle.pt_plan.proofs.Growing.{carried_grows}
use Rattle.pt_plan.proofs.laws.carried_grows.Goals as goal

pub returns : goal.returns
returns c = carried_grows
