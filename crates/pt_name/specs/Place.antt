-- The place of an identifier in a storage root: extension 0003-hash-and-id-n-tuple-storage-layout.
use Rattle.std.specs.Prelude.{◌≡◌, ◌<◌, ◌≤◌, ℕ, true, All, zero, suc, Bool, ◌==◌, ◌||◌, ◌&&◌, nat_le, if◌then◌else◌, List, [], ◌∷◌, ◌++◌, length, take, drop}
use Rattle.std.specs.List.{flat_map}
use Rattle.sha2.specs.Sha256.{sha256}
use Rattle.hex.specs.Hex.{encode_lower}
use Rattle.pt_tree.specs.Path.{Path}
use Rattle.pt_name.specs.Hex.{hex_pair}
use Rattle.pt_name.specs.Tuples.{Tuples}

-- one of `A-Z a-z 0-9 - _`
abbrev pub is_safe : ℕ → Bool
is_safe byte =
    (nat_le 65 byte && nat_le byte 90) || (nat_le 97 byte && nat_le byte 122)
    || (nat_le 48 byte && nat_le byte 57) || byte == 45 || byte == 95

-- a safe byte as itself, every other byte as `%hh`
abbrev pub encoded_spelling : ℕ → List ℕ
encoded_spelling byte = if is_safe byte then byte ∷ [] else 37 ∷ hex_pair byte

-- the encoded identifier, however long
abbrev pub encoded_of : List ℕ → List ℕ
encoded_of id = flat_map encoded_spelling id

-- the SHA-256 of an identifier as 64 hex digits in lower case
abbrev pub digest_text : List ℕ → List ℕ
digest_text id = encode_lower (sha256 id)

-- an encoding of up to 100 characters, or the first 100 of a longer one, `-` and the digest's text
abbrev pub shortened : List ℕ → List ℕ → List ℕ
shortened encoding digits =
    if nat_le (length encoding) 100 then encoding else take 100 encoding ++ 45 ∷ digits

-- the last name of an identifier's place: the encoded identifier, shortened where it must be
abbrev pub last_name_of : List ℕ → List ℕ
last_name_of id = shortened (encoded_of id) (digest_text id)

-- so many pieces of this size from the front of a text
abbrev pub tuples_from : ℕ → ℕ → List ℕ → Path
tuples_from size zero digits = []
tuples_from size (suc count) digits = take size digits ∷ tuples_from size count (drop size digits)

-- the names of the place of an identifier: its tuples, cut from the front of its SHA-256 (the `sha2` crate's definition of FIPS 180-4), then its last name
abbrev pub place_of : Tuples → List ℕ → Path
place_of tuples id = tuples_from tuples.size tuples.count (digest_text id) ++ last_name_of id ∷ []

-- a byte that names of a place may have: a safe one, or `%`
abbrev pub IsPlaceByte : ℕ → Type 0
IsPlaceByte byte = (is_safe byte || byte == 37) ≡ true

-- a name of 1 to 255 such bytes
pub record IsPlaceName (bytes : List ℕ) : Type 0 where
  pub some : 0 < length bytes
  pub bound : length bytes ≤ 255
  pub safe : All IsPlaceByte bytes

-- What two identifiers have in common whose places are one: both encodings are shortened, to the same characters, and
-- the SHA-256 is one.
pub record SharesShortName (a b : List ℕ) : Type 0 where
  pub first_long : 100 < length (encoded_of a)
  pub second_long : 100 < length (encoded_of b)
  pub front : take 100 (encoded_of a) ≡ take 100 (encoded_of b)
  pub digest : sha256 a ≡ sha256 b
