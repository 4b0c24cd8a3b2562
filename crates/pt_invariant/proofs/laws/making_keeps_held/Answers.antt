use Rattle.pt_invariant.proofs.held.MakesHold.{makes_hold}
use Rattle.pt_invariant.proofs.laws.making_keeps_held.Goals as goal

pub returns : goal.returns
returns c = makes_hold
