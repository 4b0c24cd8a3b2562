use Rattle.std.proofs.Common.{arith}
use Rattle.pt_guard.proofs.apart.nesting_by_name.Goals as goal

pub returns-then-file : goal.returns-then-file
returns-then-file g c = grind arith steps 100000
