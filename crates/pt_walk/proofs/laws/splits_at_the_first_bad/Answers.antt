use Rattle.pt_walk.proofs.BadEntries.{splits}
use Rattle.pt_walk.proofs.laws.splits_at_the_first_bad.Goals as goal

pub returns : goal.returns
returns c = splits
