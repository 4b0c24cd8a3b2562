-- The texts of lengths: of which lengths they are equal, and how long they are.
use Rattle.std.specs.Prelude.{◌≡◌, ◌<◌, ◌^◌, ℕ, length, nat_lt, List}
use Rattle.pt_quick.specs.Measured.{text_of_file, text_of_length}

-- texts are equal only where the lengths are
abbrev pub LengthsAreTold : Type 0
LengthsAreTold = (longest : ℕ) (x y : List ℕ) → length x < 2 ^ 64 → length y < 2 ^ 64
    → text_of_file longest x ≡ text_of_file longest y → length x ≡ length y

-- a text has more than twenty bytes just where the length is over the greatest
abbrev pub LongFilesAreMarked : Type 0
LongFilesAreMarked = (longest count : ℕ) → count < 2 ^ 64
    → nat_lt 20 (length (text_of_length longest count)) ≡ nat_lt longest count
