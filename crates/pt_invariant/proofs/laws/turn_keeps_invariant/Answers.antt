use Rattle.pt_invariant.proofs.ends.TurnKeeps.{turn_keeps_invariant}
use Rattle.pt_invariant.proofs.laws.turn_keeps_invariant.Goals as goal

pub returns : goal.returns
returns c = turn_keeps_invariant
