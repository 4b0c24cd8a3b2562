use Rattle.std.proofs.Common.{rules}
use Rattle.pt_make.proofs.root.after_item.Goals as goal

pub returns-then-item-eq-LAST_ITEM : goal.returns-then-item-eq-LAST_ITEM
returns-then-item-eq-LAST_ITEM c = search rules
