use Rattle.pt_invariant.proofs.turns_left.MakesLower.{makes_lower}
use Rattle.pt_invariant.proofs.work_laws.making_decreases_rank.Goals as goal

pub returns : goal.returns
returns c = makes_lower
