use Rattle.pt_plan.proofs.OtherTurns.{turns_have_no_part}
use Rattle.pt_plan.proofs.laws.turns_have_no_part.Goals as goal

pub returns : goal.returns
returns c = turns_have_no_part
