use Rattle.std.proofs.Common.{length}
use Rattle.pt_check.proofs.judging.+is_among_shorties.Given as goal

abbrev pub decreases-is_among_shorties : goal.decreases-is_among_shorties
decreases-is_among_shorties l = length l.names.now
