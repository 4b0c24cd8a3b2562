use Rattle.pt_walk.proofs.Findings.{interior}
use Rattle.pt_walk.proofs.laws.interior_holds_shorties.Goals as goal

pub returns : goal.returns
returns c = interior
