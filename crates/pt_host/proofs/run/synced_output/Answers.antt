use Rattle.std.proofs.Common.{rules}
use Rattle.pt_host.proofs.run.synced_output.Goals as goal

pub returns-then-not-sync : goal.returns-then-not-sync
returns-then-not-sync g c = search rules
