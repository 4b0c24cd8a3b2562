use Rattle.pt_plan.proofs.Growing.{what_stands_stays}
use Rattle.pt_plan.proofs.laws.what_stands_stays.Goals as goal

pub returns : goal.returns
returns c = what_stands_stays
