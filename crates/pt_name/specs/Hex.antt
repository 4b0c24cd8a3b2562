-- Two hex digits of a byte, in lower case.
use Rattle.std.specs.Prelude.{ℕ, ◌/◌, ◌%◌, List, [], ◌∷◌, slice_index}
use Rattle.hex.specs.Hex.{lower_digits}

-- the two digits of a byte, the high four bits first
abbrev pub hex_pair : ℕ → List ℕ
hex_pair byte = slice_index lower_digits (byte / 16) ∷ slice_index lower_digits (byte % 16) ∷ []
