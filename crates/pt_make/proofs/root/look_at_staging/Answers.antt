use Rattle.std.proofs.Common.{arith}
use Rattle.pt_make.proofs.RootTurns.{root_rules}
use Rattle.pt_make.proofs.root.look_at_staging.Goals as goal

pub returns : goal.returns
returns g c = grind (arith, root_rules) steps 1000000
