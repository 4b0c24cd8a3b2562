use Rattle.std.proofs.Common.{rules}
use Rattle.pt_memory.proofs.mem_dest.MemDest.kind_at.Goals as goal

pub returns : goal.returns
returns c = search rules
