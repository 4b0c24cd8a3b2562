use Rattle.pt_plan.proofs.Growing.{begins_with_the_base}
use Rattle.pt_plan.proofs.laws.begins_with_the_base.Goals as goal

pub returns : goal.returns
returns c = begins_with_the_base
