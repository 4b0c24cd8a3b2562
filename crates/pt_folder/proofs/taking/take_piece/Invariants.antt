use Rattle.std.proofs.Common.{◌≤◌, length}
use Rattle.pt_folder.proofs.Taken.{Took}
use Rattle.pt_folder.proofs.taking.take_piece.Given as goal

-- what the front of the piece gives was taken
abbrev pub invariant-loop-end : goal.invariant-loop-end
invariant-loop-end g l = record {
  short : length l.rest ≤ length l.piece;
  took : Took g.T.Takes.has l.piece l.rest l.fn.taken l.taken;
}

abbrev pub decreases-loop-end : goal.decreases-loop-end
decreases-loop-end g l = length l.rest
