use Rattle.pt_quick.specs.DepthMeasured.{file_at-measured}
use Rattle.pt_quick.proofs.laws.files_are_measured.Goals as goal

pub returns : goal.returns
returns c = file_at-measured
