use Rattle.std.proofs.Common.{arith}
use Rattle.pt_host.proofs.event.EventPaths.make_unless_left.Goals as goal

pub returns-in-Ok : goal.returns-in-Ok
returns-in-Ok g c = grind arith steps 100000
