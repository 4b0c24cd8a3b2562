use Rattle.pt_invariant.proofs.items.ItemsKeep.{scans_items}
use Rattle.pt_invariant.proofs.laws.scanning_keeps_items.Goals as goal

pub returns : goal.returns
returns c = scans_items
