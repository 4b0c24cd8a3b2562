use Rattle.pt_check.proofs.Kept.{none_for_reserved}
use Rattle.pt_check.proofs.laws.no_run_skips_for_reserved.Goals as goal

pub returns : goal.returns
returns c = none_for_reserved
