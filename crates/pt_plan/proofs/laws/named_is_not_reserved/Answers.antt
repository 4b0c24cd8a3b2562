use Rattle.pt_plan.proofs.Reserved.{named_is_not_reserved}
use Rattle.pt_plan.proofs.laws.named_is_not_reserved.Goals as goal

pub returns : goal.returns
returns c = named_is_not_reserved
