use Rattle.pt_invariant.proofs.ends.TurnEnds.{halts_leave}
use Rattle.pt_invariant.proofs.laws.halts_leave.Goals as goal

pub returns : goal.returns
returns c = halts_leave
