use Rattle.pt_invariant.proofs.dest.MakesDest.{makes_dest}
use Rattle.pt_invariant.proofs.laws.making_keeps_dest.Goals as goal

pub returns : goal.returns
returns c = makes_dest
