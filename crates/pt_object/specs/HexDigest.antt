-- Digests read from their text in hex.
use Rattle.std.specs.Prelude.{◌≡◌, ℕ, List, Option, None, Some, cond, length}
use Rattle.std.specs.Option.{option_and_then}
use Rattle.std.specs.Result.{result_ok}
use Rattle.std.specs.Str.{bytes_eq}
use Rattle.hex.specs.Hex.{IsBytes, decode_sized, encode_lower}
use Rattle.pt_object.specs.declared.algorithm.Algorithm.{Algorithm}
use Rattle.pt_object.specs.declared.algorithm.Algorithm.TheVariants.{Sha512, Sha256}

-- how many bytes a digest of an algorithm has
abbrev pub digest_size : Algorithm → ℕ
digest_size Sha512 = 64
digest_size Sha256 = 32

-- as many bytes
pub record IsDigest (algorithm : Algorithm) (digest : List ℕ) : Type 0 where
  pub bytes : IsBytes digest
  pub size : length digest ≡ digest_size algorithm

-- the digest, if its lower-case hex is this text
abbrev pub if_hex_is : List ℕ → List ℕ → Option (List ℕ)
if_hex_is text digest = cond (bytes_eq (encode_lower digest) text) (Some digest) None

-- the bytes of a digest's number that a text is in hex, in letters of either case
abbrev pub digest_in : Algorithm → List ℕ → Option (List ℕ)
digest_in algorithm text = result_ok (decode_sized text (digest_size algorithm))

-- the digest of an algorithm whose lower-case hex a text is, if it is one's
abbrev pub hex_digest : Algorithm → List ℕ → Option (List ℕ)
hex_digest algorithm text = option_and_then (if_hex_is text) (digest_in algorithm text)
