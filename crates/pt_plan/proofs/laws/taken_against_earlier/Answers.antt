use Rattle.pt_plan.proofs.Growing.{taken_against_earlier}
use Rattle.pt_plan.proofs.laws.taken_against_earlier.Goals as goal

pub returns : goal.returns
returns c = taken_against_earlier
