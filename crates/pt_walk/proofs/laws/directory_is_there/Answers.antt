use Rattle.pt_walk.proofs.TrailSteps.{directory_there}
use Rattle.pt_walk.proofs.laws.directory_is_there.Goals as goal

pub returns : goal.returns
returns c = directory_there
