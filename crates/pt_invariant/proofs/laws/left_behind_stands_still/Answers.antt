use Rattle.pt_invariant.proofs.faults.StandingStill.{left_behind_stands_still}
use Rattle.pt_invariant.proofs.laws.left_behind_stands_still.Goals as goal

pub returns : goal.returns
returns c = left_behind_stands_still
