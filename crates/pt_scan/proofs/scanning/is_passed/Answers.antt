use Rattle.std.proofs.Common.{rules}
use Rattle.pt_scan.proofs.scanning.is_passed.Goals as goal

pub returns-then-in_site : goal.returns-then-in_site
returns-then-in_site c = search rules

pub returns-else-in_site : goal.returns-else-in_site
returns-else-in_site c = search rules
