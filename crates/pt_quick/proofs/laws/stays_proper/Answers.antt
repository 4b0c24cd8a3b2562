use Rattle.pt_quick.specs.DepthMeasured.{proper-measured}
use Rattle.pt_quick.proofs.laws.stays_proper.Goals as goal

pub returns : goal.returns
returns c = proper-measured
