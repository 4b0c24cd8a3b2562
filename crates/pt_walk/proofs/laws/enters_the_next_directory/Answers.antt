use Rattle.pt_walk.proofs.ObjectSteps.{enters}
use Rattle.pt_walk.proofs.laws.enters_the_next_directory.Goals as goal

pub returns : goal.returns
returns c = enters
