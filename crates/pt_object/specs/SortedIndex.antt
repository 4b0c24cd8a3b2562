-- Rows of positions: all have one length, but for the last, which may be shorter.
use Rattle.std.specs.Prelude.{◌≡◌, ℕ, ◌+◌, ◌-◌, ◌<◌, ◌≤◌, List, length, map, slice_index}

-- how many positions a full row has
abbrev pub row_length : ℕ
row_length = 4096

-- every row is full but for the last, and that has at most as many
pub record AreRows (rows : List (List ℕ)) : Type 0 where
  pub full : (k : ℕ) → k + 1 < length rows → slice_index (map length rows) k ≡ row_length
  pub fits : (k : ℕ) → k < length rows → slice_index (map length rows) k ≤ row_length

-- there is a last row, and it isn't full
abbrev pub HasRoom : List (List ℕ) → Type 0
HasRoom rows = (0 < length rows) × (slice_index (map length rows) (length rows - 1) < row_length)
