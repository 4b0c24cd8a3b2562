use Rattle.pt_invariant.proofs.turns_left.Within.{turn_is_left}
use Rattle.pt_invariant.proofs.work_laws.turn_is_left.Goals as goal

pub returns : goal.returns
returns c = turn_is_left
