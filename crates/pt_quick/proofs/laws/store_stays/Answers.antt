use Rattle.pt_quick.proofs.SitesMeasured.{store_stays}
use Rattle.pt_quick.proofs.laws.store_stays.Goals as goal

pub returns : goal.returns
returns c = store_stays
