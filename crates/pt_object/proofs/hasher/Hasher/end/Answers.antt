use Rattle.std.proofs.Common.{rules}
use Rattle.pt_object.specs.Hasher.{HasBeenFed}
use Rattle.pt_object.proofs.hasher.Hasher.end.Goals as goal

pub returns-in-Sha512 : goal.returns-in-Sha512
unfolding HasBeenFed
returns-in-Sha512 c = search rules
