use Rattle.pt_invariant.proofs.turns_left.Within.{turns_are_within_work}
use Rattle.pt_invariant.proofs.work_laws.turns_are_within_work.Goals as goal

pub returns : goal.returns
returns c = turns_are_within_work
