-- A text cut where a piece stands in it.
use Rattle.std.specs.List.{after_first, before_first, ends_with, position_or_len, starts_with}
use Rattle.std.specs.Option.{option_map, option_or}
use Rattle.std.specs.Prelude.{ℕ, ◌-◌, ◌^◌, ◌&&◌, ◌==◌, List, [], ◌∷◌, Option, None, Some, drop, if◌then◌else◌, length, nat_eq, nat_lt, take}
use Rattle.std.specs.Str.{all_ascii_digits}
use Rattle.std.specs.Str.Parse.{digits_value, without_leading_plus}

-- the parts of a text before and behind something
abbrev pub Parts : Type 0
Parts = List ℕ × List ℕ

-- the same with a byte before them
abbrev pub with_byte : ℕ → Parts → Parts
with_byte byte parts = (byte ∷ parts.0, parts.1)

-- a text that begins with a piece, cut there
abbrev pub cut_here : List ℕ → List ℕ → Option Parts
cut_here piece text = if starts_with nat_eq text piece then Some ([], drop (length piece) text) else None

-- a text cut where a piece stands in it first
abbrev pub cut_first : List ℕ → List ℕ → Option Parts
cut_first piece [] = cut_here piece []
cut_first piece (byte ∷ text) = option_or (cut_here piece (byte ∷ text)) (option_map (with_byte byte) (cut_first piece text))

-- and where it stands last
abbrev pub cut_last : List ℕ → List ℕ → Option Parts
cut_last piece [] = cut_here piece []
cut_last piece (byte ∷ text) = option_or (option_map (with_byte byte) (cut_last piece text)) (cut_here piece (byte ∷ text))

-- a text cut at a byte, where that stands first
abbrev pub cut_at : ℕ → List ℕ → Option Parts
cut_at byte text = if nat_lt (position_or_len (λ it. it == byte) text) (length text)
    then Some (before_first (λ it. it == byte) text, after_first (λ it. it == byte) text)
    else None

-- what follows a front, if the text has it
abbrev pub without_front : List ℕ → List ℕ → Option (List ℕ)
without_front front text = if starts_with nat_eq text front then Some (drop (length front) text) else None

-- what comes before an end, if the text has it
abbrev pub without_end : List ℕ → List ℕ → Option (List ℕ)
without_end end text = if ends_with nat_eq text end then Some (take (length text - length end) text) else None

-- the number below 2^64 that digits write
abbrev pub number_by : List ℕ → Option ℕ
number_by digits = if nat_lt 0 (length digits) && (all_ascii_digits digits && nat_lt (digits_value 10 digits) (2 ^ 64))
    then Some (digits_value 10 digits)
    else None

-- and a text, in which a `+` may stand before them
abbrev pub number_in : List ℕ → Option ℕ
number_in text = number_by (without_leading_plus text)
