use Rattle.pt_walk.proofs.ObjectSteps.{leaves}
use Rattle.pt_walk.proofs.laws.leaves_the_directory.Goals as goal

pub returns : goal.returns
returns c = leaves
