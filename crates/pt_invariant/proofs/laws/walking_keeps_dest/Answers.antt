use Rattle.pt_invariant.proofs.dest.DestKeeps.{walks_dest}
use Rattle.pt_invariant.proofs.laws.walking_keeps_dest.Goals as goal

pub returns : goal.returns
returns c = walks_dest
