use Rattle.std.proofs.Common.{rules}
use Rattle.pt_scan.proofs.reading.take_block.Goals as goal

pub returns-clause-block : goal.returns-clause-block
returns-clause-block g c = search rules
