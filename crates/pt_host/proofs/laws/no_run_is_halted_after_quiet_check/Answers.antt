use Rattle.pt_host.proofs.UnhaltedStore.{unhalted_store}
use Rattle.pt_host.proofs.laws.no_run_is_halted_after_quiet_check.Goals as goal

pub returns : goal.returns
returns g c = unhalted_store _
