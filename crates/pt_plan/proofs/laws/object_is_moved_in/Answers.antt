use Rattle.pt_plan.proofs.MovedIn.{object_is_moved_in}
use Rattle.pt_plan.proofs.laws.object_is_moved_in.Goals as goal

pub returns : goal.returns
returns c = object_is_moved_in
