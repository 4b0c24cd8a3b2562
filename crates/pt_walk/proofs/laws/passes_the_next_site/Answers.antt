use Rattle.pt_walk.proofs.SiteSteps.{passes}
use Rattle.pt_walk.proofs.laws.passes_the_next_site.Goals as goal

pub returns : goal.returns
returns c = passes
