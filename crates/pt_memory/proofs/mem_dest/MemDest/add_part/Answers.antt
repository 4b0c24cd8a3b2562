use Rattle.std.proofs.Common.{rules}
use Rattle.pt_memory.proofs.mem_dest.MemDest.add_part.Goals as goal

pub returns-clause-added : goal.returns-clause-added
returns-clause-added c = search rules

pub returns-clause-count : goal.returns-clause-count
returns-clause-count c = search rules
