use Rattle.std.proofs.Common.{◌≡◌, length, take, rules, arith}
use Rattle.pt_folder.proofs.Blocks.{takes_block}
use Rattle.pt_folder.proofs.bytes.read_block.Goals as goal

pub returns-clause-block : goal.returns-clause-block
returns-clause-block g c =
    let long : length c.fill.new.buffer ≡ 8192 = omega arith in
    let block : c.try_extend_from_slice.new.self.items ≡ take c.in_ok-count.count c.fill.new.buffer = search rules in
    takes_block 8192 _ _ c.in_ok-count.count c.fill.new.buffer c.try_extend_from_slice.new.self.items long c.in_ok-count.ensures.bytes block
