use Rattle.std.proofs.Common.{refl}
use Rattle.pt_host.proofs.LogPut.{stays_failed, stays_put}
use Rattle.pt_host.proofs.durable_log.DurableLogLog.put.Goals as goal

pub returns-in-Ok-clause-keeps : goal.returns-in-Ok-clause-keeps
returns-in-Ok-clause-keeps g c =
    let own = c.in-Ok.ensures in
    stays_put g.W.Writes.writes g.F.SyncsOutput.puts c.args.self.now _ refl own.still own.synced own.put

pub returns-in-Err-clause-keeps : goal.returns-in-Err-clause-keeps
returns-in-Err-clause-keeps g c =
    let own = c.in-Err.ensures in
    let counted = c.count_failure.ensures in
    stays_failed g.W.Writes.writes g.F.SyncsOutput.puts c.args.self.now c.count_failure.new.self _ _ _ counted.same counted.file counted.risen own.still own.put
