use Rattle.std.proofs.Common.{arith}
use Rattle.pt_host.proofs.durable_log.sync_there.Goals as goal

pub returns-in-Err-clause-synced : goal.returns-in-Err-clause-synced
returns-in-Err-clause-synced g c = grind arith steps 100000
