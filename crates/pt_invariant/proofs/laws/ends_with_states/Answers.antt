use Rattle.pt_invariant.proofs.ends.EndStates.{ends_with_states}
use Rattle.pt_invariant.proofs.laws.ends_with_states.Goals as goal

pub returns : goal.returns
returns c = ends_with_states
