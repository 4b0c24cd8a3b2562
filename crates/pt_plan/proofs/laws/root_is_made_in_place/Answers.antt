use Rattle.pt_plan.proofs.MovedIn.{root_is_made_in_place}
use Rattle.pt_plan.proofs.laws.root_is_made_in_place.Goals as goal

pub returns : goal.returns
returns c = root_is_made_in_place
