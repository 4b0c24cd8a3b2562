use Rattle.std.proofs.Common.{arith}
use Rattle.pt_guard.proofs.holding.held_by.Goals as goal

pub returns-in-Ok-true : goal.returns-in-Ok-true
returns-in-Ok-true g c = grind arith steps 100000
