use Rattle.std.proofs.Common.{rules}
use Rattle.pt_object.proofs.Indexed.{at_from_get}
use Rattle.pt_object.proofs.table.contents.Contents.position_near.Goals as goal

pub returns : goal.returns
returns c = at_from_get c.args.self.now c.args.next c.in-Some.content.now c.args.digest.now (search rules) (search rules)
