use Rattle.pt_invariant.proofs.ends.TurnEnds.{turn_ends_invariant}
use Rattle.pt_invariant.proofs.laws.turn_ends_invariant.Goals as goal

pub returns : goal.returns
returns c = turn_ends_invariant
