use Rattle.pt_walk.proofs.SiteSteps.{starts}
use Rattle.pt_walk.proofs.laws.starts_with_the_top.Goals as goal

pub returns : goal.returns
returns c = starts
