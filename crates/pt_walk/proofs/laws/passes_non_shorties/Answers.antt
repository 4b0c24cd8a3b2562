use Rattle.pt_walk.proofs.SiteSteps.{passes_others}
use Rattle.pt_walk.proofs.laws.passes_non_shorties.Goals as goal

pub returns : goal.returns
returns c = passes_others
