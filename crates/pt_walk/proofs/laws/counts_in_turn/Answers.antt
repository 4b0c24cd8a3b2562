use Rattle.pt_walk.proofs.BadEntries.{counts}
use Rattle.pt_walk.proofs.laws.counts_in_turn.Goals as goal

pub returns : goal.returns
returns c = counts
