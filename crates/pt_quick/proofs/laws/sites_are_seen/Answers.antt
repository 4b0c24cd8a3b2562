use Rattle.pt_quick.proofs.SitesMeasured.{sites_seen}
use Rattle.pt_quick.proofs.laws.sites_are_seen.Goals as goal

pub returns : goal.returns
returns c = sites_seen
