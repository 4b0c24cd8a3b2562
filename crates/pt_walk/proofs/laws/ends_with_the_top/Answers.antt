use Rattle.pt_walk.proofs.SiteSteps.{ends}
use Rattle.pt_walk.proofs.laws.ends_with_the_top.Goals as goal

pub returns : goal.returns
returns c = ends
