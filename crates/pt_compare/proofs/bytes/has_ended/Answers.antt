use Rattle.std.proofs.Common.{rules}
use Rattle.pt_compare.proofs.Reading.{can_read}
use Rattle.pt_compare.proofs.Passed.{end_told}
use Rattle.pt_compare.proofs.bytes.has_ended.Goals as goal

pub returns-clause-ended : goal.returns-clause-ended
returns-clause-ended g c = end_told (g.R.Source.told c.args.root.now) c.next.new.block.items _ c.in_ok-next.ensures.block (search rules)

pub next-requires : goal.next-requires
next-requires g c = can_read (g.R.Source.told c.args.root.now) c.requires
