use Rattle.pt_invariant.proofs.dest.PlacesDest.{places_dest}
use Rattle.pt_invariant.proofs.laws.placing_keeps_dest.Goals as goal

pub returns : goal.returns
returns c = places_dest
