-- Texts that lie packed in buckets, and in which of them a text lies.
use Rattle.std.specs.Prelude.{◌≡◌, ℕ, Bool, false, ◌*◌, ◌-◌, ◌%◌, ◌^◌, ◌==◌, cond, nat_lt, not, List, drop, length, bit_xor, Option, None, Some}
use Rattle.std.specs.Global.{Vec}
use Rattle.std.specs.List.{All, filter, fold, list_any, slice_get, slice_split}
use Rattle.std.specs.Str.{bytes_eq}

-- the byte that stands before each text
abbrev pub is_nul : ℕ → Bool
is_nul b = b == 0

-- the byte is nowhere in this text
abbrev pub HasNoNul : List ℕ → Type 0
HasNoNul text = All (λ b. is_nul b ≡ false) text

-- the texts that a bucket of these bytes has
abbrev pub texts_in : List ℕ → List (List ℕ)
texts_in bytes = drop 1 (slice_split is_nul bytes)

-- this text is one of them
abbrev pub holds : List ℕ → List ℕ → Bool
holds text bytes = list_any (bytes_eq text) (texts_in bytes)

-- one byte more of a text's hash by FNV-1a, of 64 bits
abbrev pub hash_step : ℕ → ℕ → ℕ
hash_step hash byte = (bit_xor hash byte * 1099511628211) % 2 ^ 64

-- the lower half of a text's hash
unfoldable pub hash_of : List ℕ → ℕ
hash_of text = fold hash_step 14695981039346656037 text % 2 ^ 32

-- Which of so many buckets is a hash's: the one of this number by twice the base, or, where there is none yet, the one that
-- is still to be divided for it.
abbrev pub bucket_of : ℕ → ℕ → ℕ → ℕ
bucket_of base count hash =
    cond (nat_lt (hash % (2 * base)) count) (hash % (2 * base)) (hash % (2 * base) - base)

-- a bucket, if it is there, has this text
abbrev pub held_in : List ℕ → Option (Vec ℕ) → Bool
held_in text None = false
held_in text (Some bucket) = holds text bucket.items

-- this text lies in its bucket
abbrev pub is_held : ℕ → List (Vec ℕ) → List ℕ → Bool
is_held base buckets text =
    held_in text (slice_get buckets (bucket_of base (length buckets) (hash_of text)))

-- a text lies in the bucket behind so many, once that is there
abbrev pub goes_on : ℕ → ℕ → List ℕ → Bool
goes_on base count text = hash_of text % (2 * base) == count

-- of these texts those stay that don't go on
pub record IsHalved (base count : ℕ) (texts stays goes : List (List ℕ)) : Type 0 where
  pub stay : stays ≡ filter (λ t. not (goes_on base count t)) texts
  pub go : goes ≡ filter (goes_on base count) texts
