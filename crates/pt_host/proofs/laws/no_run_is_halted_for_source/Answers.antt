use Rattle.pt_host.proofs.Unhalted.{unhalted}
use Rattle.pt_host.proofs.laws.no_run_is_halted_for_source.Goals as goal

pub returns : goal.returns
returns c = unhalted
