use Rattle.std.proofs.Common.{arith}
use Rattle.pt_make.proofs.MakeRules.{make_rules}
use Rattle.pt_make.proofs.inventories.make_sidecar.Goals as goal

pub returns-in-Version : goal.returns-in-Version
returns-in-Version g c = grind (arith, make_rules) steps 1000000
