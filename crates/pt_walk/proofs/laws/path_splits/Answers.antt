use Rattle.pt_walk.proofs.TrailSteps.{path_splits}
use Rattle.pt_walk.proofs.laws.path_splits.Goals as goal

pub returns : goal.returns
returns c = path_splits
