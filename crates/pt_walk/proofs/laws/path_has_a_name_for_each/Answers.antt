use Rattle.pt_walk.proofs.TrailSteps.{name_for_each}
use Rattle.pt_walk.proofs.laws.path_has_a_name_for_each.Goals as goal

pub returns : goal.returns
returns c = name_for_each
