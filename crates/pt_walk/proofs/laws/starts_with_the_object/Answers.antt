use Rattle.pt_walk.proofs.ObjectSteps.{starts}
use Rattle.pt_walk.proofs.laws.starts_with_the_object.Goals as goal

pub returns : goal.returns
returns c = starts
