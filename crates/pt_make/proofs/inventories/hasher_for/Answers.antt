use Rattle.std.proofs.Common.{arith}
use Rattle.pt_make.proofs.MakeRules.{make_rules}
use Rattle.pt_make.proofs.inventories.hasher_for.Goals as goal

pub returns-in-Version : goal.returns-in-Version
returns-in-Version c = grind (arith, make_rules) steps 1000000
