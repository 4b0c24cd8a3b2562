use Rattle.std.proofs.Common.{rules}
use Rattle.pt_host.proofs.auditing.status_of.Goals as goal

pub returns-in-Ok-2 : goal.returns-in-Ok-2
returns-in-Ok-2 c = search rules
