use Rattle.pt_quick.specs.DepthMeasured.{tree-measured}
use Rattle.pt_quick.proofs.laws.trees_are_measured.Goals as goal

pub returns : goal.returns
returns c = tree-measured
