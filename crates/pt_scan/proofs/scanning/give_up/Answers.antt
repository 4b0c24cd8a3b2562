use Rattle.std.proofs.Common.{rules}
use Rattle.pt_scan.proofs.scanning.give_up.Goals as goal

pub returns : goal.returns
returns g c = search rules
