use Rattle.pt_invariant.proofs.turns_left.EndsWithin.{stops_within_work}
use Rattle.pt_invariant.proofs.work_laws.stops_within_work.Goals as goal

pub returns : goal.returns
returns c = stops_within_work
