use Rattle.pt_make.proofs.Texts.{digest_is}
use Rattle.pt_make.proofs.inventories.inventory_digest.Goals as goal

pub returns : goal.returns
returns c = digest_is c.args.state.now c.args.object.now _ _ c.requires c.in_ok-copy.ensures c.end.ensures
