use Rattle.pt_quick.proofs.SeenObject.{inside_measured}
use Rattle.pt_quick.proofs.laws.inside_is_measured.Goals as goal

pub returns : goal.returns
returns c = inside_measured
