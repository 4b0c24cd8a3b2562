use Rattle.pt_invariant.proofs.held.HeldKeeps.{walks_hold}
use Rattle.pt_invariant.proofs.laws.walking_keeps_held.Goals as goal

pub returns : goal.returns
returns c = walks_hold
