use Rattle.pt_walk.proofs.TrailSteps.{file_there}
use Rattle.pt_walk.proofs.laws.file_is_there.Goals as goal

pub returns : goal.returns
returns c = file_there
