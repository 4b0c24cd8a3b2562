use Rattle.pt_name.proofs.Places.{one_place}
use Rattle.pt_name.proofs.laws.one_place.Goals as goal

pub returns : goal.returns
returns c = one_place
