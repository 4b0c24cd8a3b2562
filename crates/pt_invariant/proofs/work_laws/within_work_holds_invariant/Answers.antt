use Rattle.pt_invariant.proofs.turns_left.Within.{within_work_holds_invariant}
use Rattle.pt_invariant.proofs.work_laws.within_work_holds_invariant.Goals as goal

pub returns : goal.returns
returns c = within_work_holds_invariant
