use Rattle.pt_walk.proofs.TrailSteps.{holds_listed}
use Rattle.pt_walk.proofs.laws.holds_what_is_listed.Goals as goal

pub returns : goal.returns
returns c = holds_listed
