use Rattle.pt_plan.proofs.MovedIn.{root_is_its_own}
use Rattle.pt_plan.proofs.laws.root_is_its_own.Goals as goal

pub returns : goal.returns
returns c = root_is_its_own
