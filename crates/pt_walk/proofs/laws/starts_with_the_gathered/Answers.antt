use Rattle.pt_walk.proofs.ObjectSteps.{starts_gathered}
use Rattle.pt_walk.proofs.laws.starts_with_the_gathered.Goals as goal

pub returns : goal.returns
returns c = starts_gathered
