use Rattle.std.proofs.Common.{arith}
use Rattle.pt_walk.proofs.site.NonShorties.and.Goals as goal

pub returns-in_default : goal.returns-in_default
returns-in_default c = grind arith steps 100000
