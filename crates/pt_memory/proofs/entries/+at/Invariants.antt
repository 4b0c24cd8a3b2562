use Rattle.std.proofs.Common.{length}
use Rattle.pt_memory.proofs.entries.+at.Given as goal

abbrev pub decreases-at : goal.decreases-at
decreases-at l = length l.path.now
