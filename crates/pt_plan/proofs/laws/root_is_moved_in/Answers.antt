use Rattle.pt_plan.proofs.MovedIn.{root_is_moved_in}
use Rattle.pt_plan.proofs.laws.root_is_moved_in.Goals as goal

pub returns : goal.returns
returns c = root_is_moved_in
