use Rattle.pt_invariant.proofs.items.ItemsKeep.{walks_items}
use Rattle.pt_invariant.proofs.laws.walking_keeps_items.Goals as goal

pub returns : goal.returns
returns c = walks_items
