use Rattle.std.proofs.Common.{length}
use Rattle.pt_plan.proofs.names.+alike_names.Given as goal

abbrev pub decreases-alike_names : goal.decreases-alike_names
decreases-alike_names l = length l.path.now
