use Rattle.pt_walk.proofs.ObjectSteps.{ends}
use Rattle.pt_walk.proofs.laws.ends_with_the_object.Goals as goal

pub returns : goal.returns
returns c = ends
