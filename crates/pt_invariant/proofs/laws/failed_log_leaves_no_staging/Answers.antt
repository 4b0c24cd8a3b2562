use Rattle.pt_invariant.proofs.faults.LogHalts.{failed_log_leaves_no_staging}
use Rattle.pt_invariant.proofs.laws.failed_log_leaves_no_staging.Goals as goal

pub returns : goal.returns
returns c = failed_log_leaves_no_staging
