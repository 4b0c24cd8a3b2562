use Rattle.pt_invariant.proofs.turns_left.StartsLower.{starts_lower}
use Rattle.pt_invariant.proofs.work_laws.starting_decreases_rank.Goals as goal

pub returns : goal.returns
returns c = starts_lower
