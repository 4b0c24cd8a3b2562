use Rattle.std.proofs.Common.{arith}
use Rattle.pt_walk.proofs.site.find_divided.Goals as goal

pub returns-in-Plain : goal.returns-in-Plain
returns-in-Plain c = grind arith steps 100000
