-- That a hasher is its core, and nothing else.
use Rattle.std.proofs.Common.{refl}
use Rattle.pt_object.specs.Hasher.{IsItsCore}
use Rattle.pt_object.specs.declared.hasher.Hasher.{Hasher}

pub is_its_core : (hasher : Hasher) → IsItsCore hasher
unfolding IsItsCore
is_its_core hasher = refl
