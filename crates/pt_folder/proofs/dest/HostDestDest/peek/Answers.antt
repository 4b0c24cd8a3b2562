use Rattle.pt_folder.proofs.UnsyncedTold.{block_peeked}
use Rattle.pt_folder.proofs.dest.HostDestDest.peek.Goals as goal

pub returns-clause-block : goal.returns-clause-block
returns-clause-block g c =
    block_peeked c.args.self.now c.first_bytes.new.self g.met.S.System.peek_law c.args.path.now c.first_bytes.new.block.items c.first_bytes.result c.requires
    c.first_bytes.ensures.asked
