use Rattle.pt_walk.proofs.ObjectSteps.{meets}
use Rattle.pt_walk.proofs.laws.meets_the_next_other.Goals as goal

pub returns : goal.returns
returns c = meets
