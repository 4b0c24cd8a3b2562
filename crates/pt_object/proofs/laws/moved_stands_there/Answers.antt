use Rattle.pt_object.proofs.Moved as moved
use Rattle.pt_object.proofs.laws.moved_stands_there.Goals as goal

pub returns : goal.returns
returns c = moved.moved_stands_there
