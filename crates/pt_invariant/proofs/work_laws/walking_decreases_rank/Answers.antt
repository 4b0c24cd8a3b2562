use Rattle.pt_invariant.proofs.turns_left.WalksLower.{walks_lower}
use Rattle.pt_invariant.proofs.work_laws.walking_decreases_rank.Goals as goal

pub returns : goal.returns
returns c = walks_lower
