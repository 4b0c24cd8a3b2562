use Rattle.pt_host.specs.Machine.{host_io_words}
use Rattle.pt_host.proofs.FailedCalls.{failed_call}
use Rattle.pt_host.proofs.laws.fault_of_a_rehearsal_comes_of_a_failed_call.Goals as goal

pub returns : goal.returns
returns g c = failed_call g.D.System g.D.File.Handle g.D.File.Input g.D.Dir.Input
    (host_io_words g.S.System.forest g.S.System.failing g.D.System.kept g.W.Write.contents)
