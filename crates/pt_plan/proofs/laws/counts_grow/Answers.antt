use Rattle.pt_plan.proofs.Counts.{counts_grow}
use Rattle.pt_plan.proofs.laws.counts_grow.Goals as goal

pub returns : goal.returns
returns c = counts_grow
