use Rattle.pt_invariant.proofs.refusals.BadTargets.{bad_target_is_none}
use Rattle.pt_invariant.proofs.laws.bad_target_is_none.Goals as goal

pub returns : goal.returns
returns c = bad_target_is_none
