use Rattle.pt_check.proofs.WithinLimits.{none_for_limit}
use Rattle.pt_check.proofs.laws.no_run_skips_for_limit.Goals as goal

pub returns : goal.returns
returns c = none_for_limit
