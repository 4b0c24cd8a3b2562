use Rattle.pt_object.proofs.Puts.{head_put}
use Rattle.pt_object.proofs.inventories.parts.Parts.put_front.Goals as goal

pub returns : goal.returns
returns c = head_put c.args.self.now c.args.here c.args.out.now _ _ c.in-Head.is c.in_ok-put_head.ensures c.in_ok-begin_object.ensures
