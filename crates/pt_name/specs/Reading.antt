-- Reading a cleaned text back, leniently.
use Rattle.std.specs.Prelude.{
  ℕ,
  ◌≡◌,
  ◌==◌,
  ◌&&◌,
  ◌||◌,
  ◌+◌,
  ◌*◌,
  Bool,
  false,
  nat_le,
  if◌then◌else◌,
  IsTrue,
  List,
  [],
  ◌∷◌,
  ◌++◌,
  Option,
  Some,
  None,
  option_map,
  option_and_then,
  Result,
  Ok,
  Err,
  ⊤,
  String,
  string_bytes,
}
use Rattle.std.specs.Global.{Global}
use Rattle.std.specs.Str.{IsUtf8}
use Rattle.hex.specs.Hex.{hex_digit_value}
use Rattle.pt_name.specs.declared.reading.UncleanFault.{UncleanFault}
use Rattle.pt_name.specs.declared.reading.UncleanFault.TheVariants as fault

-- The characters that stand for a byte by themselves. `^` `=` `+` `,` have none, nor have the bytes outside 21 to 7e.
abbrev pub stands_for : ℕ → ℕ → Bool
stands_for character byte =
    if byte == 47 then character == 61 || character == 47
    else if byte == 58 then character == 43 || character == 58
    else if byte == 46 then character == 44 || character == 46
    else if byte == 94 || byte == 61 || byte == 43 || byte == 44 then false
    else nat_le 33 byte && nat_le byte 126 && character == byte

-- the number of two hex digits of either case
abbrev pub hex_value : ℕ → ℕ → Option ℕ
hex_value high low =
    option_and_then (λ h. option_map (λ l. 16 * h + l) (hex_digit_value low)) (hex_digit_value high)

-- A piece of a text that is a spelling of a byte: a character that stands for it, or `^` and two hex digits of either
-- case whose number it is.
abbrev pub IsSpelling : ℕ → List ℕ → Type 0
IsSpelling byte [] = ⊥
IsSpelling byte (character ∷ []) = IsTrue (stands_for character byte)
IsSpelling byte (caret ∷ high ∷ []) = ⊥
IsSpelling byte (caret ∷ high ∷ low ∷ []) = (caret ≡ 94) × (hex_value high low ≡ Some byte)
IsSpelling byte (caret ∷ high ∷ low ∷ other ∷ more) = ⊥

-- The text reads these bytes: it can be cut into as many pieces, each a spelling of its byte.
abbrev pub Reads : List ℕ → List ℕ → Type 0
Reads text [] = text ≡ []
Reads text (byte ∷ bytes) = (piece rest : List ℕ) × IsSpelling byte piece × (text ≡ piece ++ rest)
    × Reads rest bytes

-- ---- the same as a function

-- the byte that a character stands for
abbrev pub read_character : ℕ → Option ℕ
read_character character =
    if character == 61 then Some 47
    else if character == 43 then Some 58
    else if character == 44 then Some 46
    else if character == 94 then None
    else if nat_le 33 character && nat_le character 126 then Some character
    else None

-- a byte before the bytes of the rest, where both could be read
abbrev pub before : Option ℕ → Option (List ℕ) → Option (List ℕ)
before first rest = option_and_then (λ byte. option_map (λ bytes. byte ∷ bytes) rest) first

-- the bytes that a text reads, if it reads any
abbrev pub reading_of : List ℕ → Option (List ℕ)
reading_of [] = Some []
reading_of (a ∷ []) = before (read_character a) (Some [])
reading_of (a ∷ b ∷ []) = before (read_character a) (before (read_character b) (Some []))
reading_of (a ∷ b ∷ c ∷ rest) =
    if a == 94 then before (hex_value b c) (reading_of rest)
    else before (read_character a) (reading_of (b ∷ c ∷ rest))

-- When a text is refused: it reads nothing, or it reads what isn't UTF-8. Want of memory may come at any time.
abbrev pub RefusesText : List ℕ → UncleanFault → Type 0
RefusesText text fault.Malformed = (bytes : List ℕ) → Reads text bytes → ⊥
RefusesText text fault.NotUtf8 = (bytes : List ℕ) × Reads text bytes × ¬ (IsUtf8 bytes)
RefusesText text fault.Memory = ⊤

-- what is answered to a text, by its reading
abbrev pub GivesReading : Option (List ℕ) → Result (String Global) UncleanFault → Type 0
GivesReading reading (Ok id) = reading ≡ Some (string_bytes id)
GivesReading reading (Err fault.Malformed) = reading ≡ None
GivesReading reading (Err fault.NotUtf8) = (bytes : List ℕ) × (reading ≡ Some bytes) × ¬ (IsUtf8 bytes)
GivesReading reading (Err fault.Memory) = ⊤

-- the number of a refusal
abbrev pub unclean_number : UncleanFault → ℕ
unclean_number fault.Malformed = 1
unclean_number fault.NotUtf8 = 2
unclean_number fault.Memory = 3
