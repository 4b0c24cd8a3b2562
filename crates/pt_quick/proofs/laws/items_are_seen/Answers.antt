use Rattle.pt_quick.proofs.SitesMeasured.{items_seen}
use Rattle.pt_quick.proofs.laws.items_are_seen.Goals as goal

pub returns : goal.returns
returns c = items_seen
