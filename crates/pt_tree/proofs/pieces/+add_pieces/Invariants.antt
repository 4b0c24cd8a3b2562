use Rattle.std.proofs.Common.{length}
use Rattle.pt_tree.proofs.pieces.+add_pieces.Given as goal

abbrev pub decreases-add_pieces : goal.decreases-add_pieces
decreases-add_pieces l = length l.text.now
