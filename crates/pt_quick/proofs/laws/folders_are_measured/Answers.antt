use Rattle.pt_quick.specs.DepthMeasured.{dir_at-measured}
use Rattle.pt_quick.proofs.laws.folders_are_measured.Goals as goal

pub returns : goal.returns
returns c = dir_at-measured
