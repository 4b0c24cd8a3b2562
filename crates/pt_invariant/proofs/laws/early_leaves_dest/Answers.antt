use Rattle.pt_invariant.proofs.refusals.EarlyHalts.{early_leaves_dest}
use Rattle.pt_invariant.proofs.laws.early_leaves_dest.Goals as goal

pub returns : goal.returns
returns c = early_leaves_dest
