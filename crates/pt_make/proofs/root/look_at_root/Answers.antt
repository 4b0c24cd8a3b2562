use Rattle.std.proofs.Common.{arith}
use Rattle.pt_make.proofs.RootTurns.{root_rules}
use Rattle.pt_make.proofs.root.look_at_root.Goals as goal

pub returns-in-None : goal.returns-in-None
returns-in-None g c = grind (arith, root_rules) steps 1000000
