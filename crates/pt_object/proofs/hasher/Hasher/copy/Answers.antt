use Rattle.std.proofs.Common.{rules}
use Rattle.pt_object.proofs.hasher.Hasher.copy.Goals as goal

pub returns-in_ok-clone-in-Sha512 : goal.returns-in_ok-clone-in-Sha512
returns-in_ok-clone-in-Sha512 c = search rules
