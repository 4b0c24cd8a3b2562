use Rattle.pt_invariant.proofs.turns_left.Within.{turn_keeps_within_work}
use Rattle.pt_invariant.proofs.work_laws.turn_keeps_within_work.Goals as goal

pub returns : goal.returns
returns c = turn_keeps_within_work
