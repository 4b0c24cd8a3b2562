use Rattle.pt_invariant.proofs.ends.TurnEnds.{stops_leave}
use Rattle.pt_invariant.proofs.laws.stops_leave.Goals as goal

pub returns : goal.returns
returns c = stops_leave
