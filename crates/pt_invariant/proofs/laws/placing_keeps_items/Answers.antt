use Rattle.pt_invariant.proofs.items.ItemsKeep.{places_items}
use Rattle.pt_invariant.proofs.laws.placing_keeps_items.Goals as goal

pub returns : goal.returns
returns c = places_items
