-- The digest algorithms.
use Rattle.std.specs.Prelude.{ℕ, List, codes}
use Rattle.sha2.specs.Sha256.{sha256}
use Rattle.sha2.specs.Sha512.{sha512}
use Rattle.pt_object.specs.declared.algorithm.Algorithm.{Algorithm}
use Rattle.pt_object.specs.declared.algorithm.Algorithm.TheVariants.{Sha512, Sha256}

-- an algorithm's word in an inventory and in a sidecar's name (OCFL 1.1, "Digests")
abbrev pub algorithm_word : Algorithm → List ℕ
algorithm_word Sha512 = codes "sha512"
algorithm_word Sha256 = codes "sha256"

-- the digest of a list of bytes
abbrev pub digest_of : Algorithm → List ℕ → List ℕ
digest_of Sha512 bytes = sha512 bytes
digest_of Sha256 bytes = sha256 bytes
