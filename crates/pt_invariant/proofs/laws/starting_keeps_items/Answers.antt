use Rattle.pt_invariant.proofs.items.ItemsKeep.{starts_items}
use Rattle.pt_invariant.proofs.laws.starting_keeps_items.Goals as goal

pub returns : goal.returns
returns c = starts_items
