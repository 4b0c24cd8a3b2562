use Rattle.pt_plan.proofs.LaterRoots.{rerun_ends_alike}
use Rattle.pt_plan.proofs.laws.rerun_ends_alike.Goals as goal

pub returns : goal.returns
returns c = rerun_ends_alike
