use Rattle.pt_invariant.proofs.turns_left.Within.{new_run_is_within_work}
use Rattle.pt_invariant.proofs.work_laws.new_run_is_within_work.Goals as goal

pub returns : goal.returns
returns c = new_run_is_within_work
