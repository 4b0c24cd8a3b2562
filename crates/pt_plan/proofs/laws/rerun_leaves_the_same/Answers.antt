use Rattle.pt_plan.proofs.LaterTrees.{rerun_leaves_the_same}
use Rattle.pt_plan.proofs.laws.rerun_leaves_the_same.Goals as goal

pub returns : goal.returns
returns c = rerun_leaves_the_same
