-- The keys of digests: the numbers that their first four bytes are, which are compared before the digests.
use Rattle.std.specs.Prelude.{◌≡◌, ◌+◌, ◌*◌, ◌^◌, ℕ, List, [], ◌∷◌, length, map, take}
use Rattle.pt_object.specs.Index.{IsIndex}
use Rattle.pt_object.specs.declared.table.contents.Content.{Content}

-- the number that bytes are, the first of the highest worth
abbrev pub number_of : List ℕ → ℕ
number_of [] = 0
number_of (b ∷ bytes) = b * 256 ^ length bytes + number_of bytes

-- the number that the first four bytes of a digest are, the first the highest
abbrev pub key_of : List ℕ → ℕ
key_of digest = number_of (take 4 digest)

-- the keys of these contents
abbrev pub keys_of : List Content → List ℕ
keys_of items = map (λ c. key_of c.digest) items

-- the index of items, and their keys
pub record IsKeyedIndex (items : List Content) (keys index : List ℕ) : Type 0 where
  pub ordered : IsIndex items index
  pub keyed : keys ≡ keys_of items
