use Rattle.pt_tree.proofs.ToldWithout.{block_read, can_read}
use Rattle.pt_tree.proofs.ignoring.IgnoringSource.next.Goals as goal

pub next-requires : goal.next-requires
next-requires g c = can_read _ _ c.requires

pub returns-clause-block : goal.returns-clause-block
returns-clause-block g c = block_read _ _ _ c.next.result c.next.ensures.block
