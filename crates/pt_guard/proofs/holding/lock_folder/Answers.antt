use Rattle.std.proofs.Common.{arith}
use Rattle.pt_guard.proofs.holding.lock_folder.Goals as goal

pub returns-in-Err-WouldBlock : goal.returns-in-Err-WouldBlock
returns-in-Err-WouldBlock g c = grind arith steps 100000
