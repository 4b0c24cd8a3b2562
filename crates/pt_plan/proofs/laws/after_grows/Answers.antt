use Rattle.pt_plan.proofs.NextObject.{after_grows}
use Rattle.pt_plan.proofs.laws.after_grows.Goals as goal

pub returns : goal.returns
returns c = after_grows
