use Rattle.pt_plan.proofs.NextObject.{after_stays}
use Rattle.pt_plan.proofs.laws.after_stays.Goals as goal

pub returns : goal.returns
returns c = after_stays
