use Rattle.pt_walk.proofs.TrailSteps.{listing_there}
use Rattle.pt_walk.proofs.laws.listing_is_there.Goals as goal

pub returns : goal.returns
returns c = listing_there
