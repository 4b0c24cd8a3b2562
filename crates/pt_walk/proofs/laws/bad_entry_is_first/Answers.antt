use Rattle.pt_walk.proofs.BadEntries.{bad_first}
use Rattle.pt_walk.proofs.laws.bad_entry_is_first.Goals as goal

pub returns : goal.returns
returns c = bad_first
