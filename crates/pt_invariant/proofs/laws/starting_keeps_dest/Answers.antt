use Rattle.pt_invariant.proofs.dest.StartsDest.{starts_dest}
use Rattle.pt_invariant.proofs.laws.starting_keeps_dest.Goals as goal

pub returns : goal.returns
returns c = starts_dest
