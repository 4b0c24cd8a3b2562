-- The index of a list of contents: the positions of its items in the order of their digests.
use Rattle.std.specs.Prelude.{◌≡◌, ℕ, ◌<◌, ◌≤◌, ◌^◌, List, length, slice_index}
use Rattle.std.specs.declared.cmp.Ordering.TheVariants.{Less, Greater}
use Rattle.pt_object.specs.Contents.{digest_at}
use Rattle.pt_object.specs.Digest.{digest_cmp}
use Rattle.pt_object.specs.declared.table.contents.Content.{Content}

-- the digest at a place of the index
abbrev pub digest_in : List Content → List ℕ → ℕ → List ℕ
digest_in items index place = digest_at items (slice_index index place)

-- index has each position of an item once, in rising order of the digests
pub record IsIndex (items : List Content) (index : List ℕ) : Type 0 where
  pub as_long : length index ≡ length items
  pub within : (k : ℕ) → k < length index → slice_index index k < length items
  pub rises : (i j : ℕ) → i < j → j < length index
      → digest_cmp (digest_in items index i) (digest_in items index j) ≡ Less
  pub complete : (p : ℕ) → p < length items → (k : ℕ) × (k < length index) × (slice_index index k ≡ p)

-- the item at the position has the digest
pub record IsAt (items : List Content) (digest : List ℕ) (position : ℕ) : Type 0 where
  pub within : position < length items
  pub same : digest_at items position ≡ digest

-- in the index lower digests stand before the place and higher ones from it on
pub record IsPlaceOf (items : List Content) (index digest : List ℕ) (place : ℕ) : Type 0 where
  pub within : place ≤ length index
  pub before : (k : ℕ) → k < place → digest_cmp (digest_in items index k) digest ≡ Less
  pub after : (k : ℕ) → place ≤ k → k < length index → digest_cmp (digest_in items index k) digest ≡ Greater

-- count is at most the number of binary digits of n, which is the least m with n below 2 ^ m: none for 0
abbrev pub IsWithinBinaryDigits : ℕ → ℕ → Type 0
IsWithinBinaryDigits count n = (m : ℕ) → n < 2 ^ m → count ≤ m
