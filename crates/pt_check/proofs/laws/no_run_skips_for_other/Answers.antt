use Rattle.pt_check.proofs.Others.{none_for_other}
use Rattle.pt_check.proofs.laws.no_run_skips_for_other.Goals as goal

pub returns : goal.returns
returns c = none_for_other
