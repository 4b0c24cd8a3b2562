use Rattle.pt_check.proofs.OwnAsRun.{check_owns_as_run}
use Rattle.pt_check.proofs.laws.check_owns_as_run.Goals as goal

pub returns : goal.returns
returns c = check_owns_as_run
