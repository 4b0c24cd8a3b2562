use Rattle.pt_make.proofs.Pieces.{fed_none}
use Rattle.pt_make.proofs.inventories.feed.Goals as goal

pub returns-in_default : goal.returns-in_default
returns-in_default c = rw c.in_default.is (fed_none c.args.bytes.now)
