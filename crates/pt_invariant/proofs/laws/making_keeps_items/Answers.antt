use Rattle.pt_invariant.proofs.items.ItemsKeep.{makes_items}
use Rattle.pt_invariant.proofs.laws.making_keeps_items.Goals as goal

pub returns : goal.returns
returns c = makes_items
