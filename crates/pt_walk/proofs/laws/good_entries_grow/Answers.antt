use Rattle.pt_walk.proofs.BadEntries.{grow}
use Rattle.pt_walk.proofs.laws.good_entries_grow.Goals as goal

pub returns : goal.returns
returns c = grow
