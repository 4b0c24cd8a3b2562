use Rattle.pt_plan.proofs.Growing.{text_grows}
use Rattle.pt_plan.proofs.laws.text_grows.Goals as goal

pub returns : goal.returns
returns c = text_grows
