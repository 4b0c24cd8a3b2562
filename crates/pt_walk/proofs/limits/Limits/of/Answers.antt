use Rattle.std.proofs.Common.{arith}
use Rattle.pt_walk.proofs.limits.Limits.of.Goals as goal

pub returns : goal.returns
returns c = grind arith steps 100000
