-- Texts as they may be shown on a terminal.
use Rattle.std.specs.Char.{encode_utf8, is_control, is_whitespace, len_utf8}
use Rattle.std.specs.Fmt.{digits}
use Rattle.std.specs.Int.{is_in_range}
use Rattle.std.specs.List.{list_any}
use Rattle.std.specs.Prelude.{ℕ, ◌+◌, ◌-◌, Bool, false, not, ◌&&◌, ◌||◌, List, [], ◌∷◌, ◌++◌, ◌==◌, codes, if◌then◌else◌, length, nat_le, nat_lt}
use Rattle.std.specs.Str.{chars, trim_end, trim_start}

-- the characters that only tell how others are shown, Unicode's category Cf: from the first of each pair to its second
abbrev pub formats : List (ℕ × ℕ)
formats = (0xad, 0xad) ∷ (0x600, 0x605) ∷ (0x61c, 0x61c) ∷ (0x6dd, 0x6dd) ∷ (0x70f, 0x70f) ∷ (0x890, 0x891) ∷ (0x8e2, 0x8e2) ∷ (0x180e, 0x180e)
    ∷ (0x200b, 0x200f) ∷ (0x202a, 0x202e) ∷ (0x2060, 0x2064) ∷ (0x2066, 0x206f) ∷ (0xfeff, 0xfeff) ∷ (0xfff9, 0xfffb) ∷ (0x1_10bd, 0x1_10bd)
    ∷ (0x1_10cd, 0x1_10cd) ∷ (0x1_3430, 0x1_343f) ∷ (0x1_bca0, 0x1_bca3) ∷ (0x1_d173, 0x1_d17a) ∷ (0xe_0001, 0xe_0001) ∷ (0xe_0020, 0xe_007f) ∷ []

-- a format character: one in these ranges
abbrev pub is_format : ℕ → Bool
is_format c = list_any (λ (range : ℕ × ℕ). is_in_range range.0 range.1 c) formats

-- a character is neither a control or format character nor a blank
abbrev pub is_seen : ℕ → Bool
is_seen c = not (is_control c) && (not (is_whitespace c) && not (is_format c))

-- a character is shown as it is: one that is seen, and a space (32) that is at no end
abbrev pub is_shown_so : ℕ → Bool → Bool
is_shown_so c is_inner = is_seen c || (c == 32 && is_inner)

-- a character by its number in hex
abbrev pub code_text : ℕ → List ℕ
code_text c = codes "\\u{" ++ (digits 16 false c ++ codes "}")

-- a character as it is shown: a `\` (92) is doubled, and one that isn't shown as it is is shown by its number in hex
abbrev pub shown_char : Bool → ℕ → List ℕ
shown_char is_inner c = if c == 92 then 92 ∷ 92 ∷ []
    else (if is_shown_so c is_inner then encode_utf8 c else code_text c)

-- these characters as they are shown, of which the first stands at this byte of a text that has blanks up to `begin` and from `end` on
abbrev pub escaped_from : ℕ → ℕ → ℕ → List ℕ → List ℕ
escaped_from begin end at [] = []
escaped_from begin end at (c ∷ cs) =
    shown_char (nat_le begin at && nat_lt at end) c ++ escaped_from begin end (at + len_utf8 c) cs

-- a text as it is shown
abbrev pub escaped : List ℕ → List ℕ
escaped text = escaped_from (length text - length (trim_start text)) (length (trim_end text)) 0 (chars text)
