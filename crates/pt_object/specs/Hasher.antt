-- What a hasher has been fed.
use Rattle.std.specs.Prelude.{◌≡◌, ℕ, List}
use Rattle.sha2.specs.Hashers.{Holds256, Holds512}
use Rattle.pt_object.specs.declared.algorithm.Algorithm.{Algorithm}
use Rattle.pt_object.specs.declared.algorithm.Algorithm.TheVariants as algorithm
use Rattle.pt_object.specs.declared.hasher.Core.{Core}
use Rattle.pt_object.specs.declared.hasher.Core.TheVariants as core
use Rattle.pt_object.specs.declared.hasher.Hasher.{Hasher}

-- the core is of this algorithm and holds the message m
abbrev pub Holds : Algorithm → Core → List ℕ → Type 0
Holds algorithm.Sha512 (core.Sha512 hasher) m = Holds512 hasher m
Holds algorithm.Sha256 (core.Sha256 hasher) m = Holds256 hasher m
Holds algorithm.Sha512 (core.Sha256 hasher) m = ⊥
Holds algorithm.Sha256 (core.Sha512 hasher) m = ⊥

-- the hasher was started for this algorithm and has been fed the bytes m
unfoldable pub HasBeenFed : Algorithm → Hasher → List ℕ → Type 0
HasBeenFed algorithm hasher m = Holds algorithm hasher.core m

-- the hasher with this core
abbrev pub hasher_of : Core → Hasher
hasher_of core = record { core = core }

-- the hasher is its core, and nothing else
unfoldable pub IsItsCore : Hasher → Type 0
IsItsCore hasher = hasher ≡ hasher_of hasher.core
