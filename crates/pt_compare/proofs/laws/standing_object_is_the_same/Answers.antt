use Rattle.pt_compare.proofs.Exact.{standing_object_is_the_same}
use Rattle.pt_compare.proofs.laws.standing_object_is_the_same.Goals as goal

pub returns : goal.returns
returns c = standing_object_is_the_same
