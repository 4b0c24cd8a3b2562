use Rattle.pt_plan.proofs.FreeWays.{way_stays_free}
use Rattle.pt_plan.proofs.laws.way_stays_free.Goals as goal

pub returns : goal.returns
returns c = way_stays_free
