use Rattle.std.proofs.Common.{rules}
use Rattle.pt_scan.proofs.walking.meet_shorty.Goals as goal

pub returns : goal.returns
returns g c = search rules

pub returns-then-is_last : goal.returns-then-is_last
returns-then-is_last g c = search rules
