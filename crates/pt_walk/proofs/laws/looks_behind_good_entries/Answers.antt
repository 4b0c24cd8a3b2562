use Rattle.pt_walk.proofs.BadEntries.{looks_behind}
use Rattle.pt_walk.proofs.laws.looks_behind_good_entries.Goals as goal

pub returns : goal.returns
returns c = looks_behind
