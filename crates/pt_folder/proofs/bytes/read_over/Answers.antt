use Rattle.std.proofs.Common.{◌≡◌, length, ◌∙◌, ap, take}
use Rattle.pt_folder.proofs.Blocks.{takes_block, refilled}
use Rattle.pt_folder.proofs.bytes.read_over.Goals as goal

pub returns-in-Ok-clause-block : goal.returns-in-Ok-clause-block
returns-in-Ok-clause-block g c =
    let kept : length c.fill.new.buffer ≡ length c.args.block.now.items = c.fill.auto.buffer ∙ ap length c.as_mut_slice.ensures.value in
    takes_block 8192 _ _ c.in-Ok.count c.fill.new.buffer c.truncate.new.self.items (kept ∙ c.requires) c.in-Ok.ensures.bytes (c.truncate.ensures.items
    ∙ ap (take c.in-Ok.count) (refilled _ _ kept))
