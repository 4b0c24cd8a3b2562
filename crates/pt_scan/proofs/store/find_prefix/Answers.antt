use Rattle.std.proofs.Common.{arith}
use Rattle.pt_scan.proofs.StoreTurns.{starting}
use Rattle.pt_scan.proofs.store.find_prefix.Goals as goal

pub returns-in-Some : goal.returns-in-Some
returns-in-Some g c = grind (arith, starting) steps 1000000
