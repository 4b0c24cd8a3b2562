use Rattle.pt_walk.proofs.SiteSteps.{enters}
use Rattle.pt_walk.proofs.laws.enters_the_next_site.Goals as goal

pub returns : goal.returns
returns c = enters
