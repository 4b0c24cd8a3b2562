use Rattle.pt_quick.proofs.SitesMeasured.{outcomes_seen}
use Rattle.pt_quick.proofs.laws.outcomes_are_seen.Goals as goal

pub returns : goal.returns
returns c = outcomes_seen
