use Rattle.pt_scan.proofs.Blocks.{next_block, read_by}
use Rattle.pt_scan.proofs.FileTurns.{turned_read}
use Rattle.pt_scan.proofs.reading.read.Goals as goal

pub returns : goal.returns
returns g c = record {
  turn = record {
    turn = turned_read _ _ _ _ _ _ _ (c.take_block.ensures.turn.turn _ c.in_ok-next.ensures.did);
    few = g.met.O.Io.still _ _ _ _ _ c.next.ensures.few c.take_block.ensures.turn.few;
    unmet = c.take_block.ensures.turn.unmet;
  };
  block = next_block _ _ _ _ (read_by _ _ _ c.in_ok-next.ensures.did) c.take_block.ensures.block;
}
