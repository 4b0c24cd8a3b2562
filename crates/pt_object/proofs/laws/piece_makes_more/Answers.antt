use Rattle.pt_object.proofs.Moved as moved
use Rattle.pt_object.proofs.laws.piece_makes_more.Goals as goal

pub returns : goal.returns
returns c = moved.piece_makes_more
