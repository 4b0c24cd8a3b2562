use Rattle.pt_quick.specs.DepthMeasured.{kind_at-measured}
use Rattle.pt_quick.proofs.laws.kinds_stay.Goals as goal

pub returns : goal.returns
returns c = kind_at-measured
