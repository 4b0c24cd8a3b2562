use Rattle.pt_quick.specs.DepthMeasured.{listing_at-measured}
use Rattle.pt_quick.proofs.laws.listings_stay.Goals as goal

pub returns : goal.returns
returns c = listing_at-measured
