use Rattle.pt_quick.proofs.Looking.{standing_is_alike}
use Rattle.pt_quick.proofs.laws.standing_object_is_alike.Goals as goal

pub returns : goal.returns
returns c = standing_is_alike
