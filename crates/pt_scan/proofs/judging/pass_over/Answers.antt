use Rattle.std.proofs.Common.{arith}
use Rattle.pt_scan.proofs.ScanRules.{scan_rules}
use Rattle.pt_scan.proofs.judging.pass_over.Goals as goal

pub returns : goal.returns
returns g c = grind (arith, scan_rules) steps 1000000
