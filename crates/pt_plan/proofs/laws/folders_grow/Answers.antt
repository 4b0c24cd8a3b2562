use Rattle.pt_plan.proofs.MovedIn.{folders_grow}
use Rattle.pt_plan.proofs.laws.folders_grow.Goals as goal

pub returns : goal.returns
returns c = folders_grow
