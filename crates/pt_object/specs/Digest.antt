-- Digests, as their bytes.
use Rattle.std.specs.Prelude.{◌≡◌, ℕ, ◌==◌, List, length, cond, refl}
use Rattle.std.specs.Ordering.{nat_cmp}
use Rattle.std.specs.Cmp.Lexicographic.{slice_cmp}
use Rattle.std.specs.declared.cmp.Ordering.{Ordering}
use Rattle.pt_object.specs.declared.digest.Bytes.{Bytes}
use Rattle.pt_object.specs.declared.digest.Bytes.TheVariants.{Short, Long}

-- digests come in the order of their bytes
abbrev pub digest_cmp : List ℕ → List ℕ → Ordering
digest_cmp = slice_cmp nat_cmp

-- the bytes, of either number
abbrev pub bytes_of : Bytes → List ℕ
bytes_of (Short bytes) = bytes
bytes_of (Long bytes) = bytes

-- how many bytes there are
abbrev pub size_of : Bytes → ℕ
size_of (Short bytes) = 32
size_of (Long bytes) = 64

-- the digest that has these bytes
abbrev pub with_bytes : List ℕ → Bytes
with_bytes bytes = cond (length bytes == 32) (Short bytes) (Long bytes)

-- a digest is that of its bytes
pub with_bytes-bytes_of : (b : Bytes) → length (bytes_of b) ≡ size_of b → with_bytes (bytes_of b) ≡ b
with_bytes-bytes_of (Short bytes) h = rw h refl
with_bytes-bytes_of (Long bytes) h = rw h refl
