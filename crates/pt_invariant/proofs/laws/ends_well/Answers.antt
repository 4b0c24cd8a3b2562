use Rattle.pt_invariant.proofs.ends.Ending.{ends_well}
use Rattle.pt_invariant.proofs.laws.ends_well.Goals as goal

pub returns : goal.returns
returns c = ends_well
