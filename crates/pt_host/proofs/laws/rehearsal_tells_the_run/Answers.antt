use Rattle.pt_host.proofs.RehearsalTold.{rehearsal_told}
use Rattle.pt_host.proofs.laws.rehearsal_tells_the_run.Goals as goal

pub returns : goal.returns
returns c = rehearsal_told
