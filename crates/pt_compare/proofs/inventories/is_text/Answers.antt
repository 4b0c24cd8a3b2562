use Rattle.std.proofs.Common.{rules}
use Rattle.pt_compare.proofs.inventories.is_text.Goals as goal

pub returns : goal.returns
returns c = search rules
