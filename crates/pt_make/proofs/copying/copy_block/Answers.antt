use Rattle.std.proofs.Common.{arith}
use Rattle.pt_make.proofs.MakeRules.{make_rules}
use Rattle.pt_make.proofs.copying.copy_block.Goals as goal

pub returns : goal.returns
returns g c = grind (arith, make_rules) steps 1000000
