use Rattle.pt_walk.proofs.ObjectSteps.{passes}
use Rattle.pt_walk.proofs.laws.passes_the_next_shorty.Goals as goal

pub returns : goal.returns
returns c = passes
