use Rattle.pt_invariant.proofs.dest.DestKeeps.{scans_dest}
use Rattle.pt_invariant.proofs.laws.scanning_keeps_dest.Goals as goal

pub returns : goal.returns
returns c = scans_dest
