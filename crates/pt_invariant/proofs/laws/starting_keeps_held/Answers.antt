use Rattle.pt_invariant.proofs.held.HeldKeeps.{starts_hold}
use Rattle.pt_invariant.proofs.laws.starting_keeps_held.Goals as goal

pub returns : goal.returns
returns c = starts_hold
