use Rattle.pt_walk.proofs.SiteSteps.{leaves}
use Rattle.pt_walk.proofs.laws.leaves_the_site.Goals as goal

pub returns : goal.returns
returns c = leaves
