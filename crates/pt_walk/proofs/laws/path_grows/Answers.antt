use Rattle.pt_walk.proofs.TrailSteps.{path_grows}
use Rattle.pt_walk.proofs.laws.path_grows.Goals as goal

pub returns : goal.returns
returns c = path_grows
