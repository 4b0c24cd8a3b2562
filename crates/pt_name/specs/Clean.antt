-- Identifier string cleaning of Pairtree 0.1, and the pairpath.
use Rattle.std.specs.Prelude.{ℕ, Bool, ◌==◌, ◌||◌, nat_lt, if◌then◌else◌, List, [], ◌∷◌}
use Rattle.std.specs.List.{flat_map}
use Rattle.pt_tree.specs.Path.{Path, joined}
use Rattle.pt_name.specs.Hex.{hex_pair}

-- one of `"` `*` `+` `,` `<` `=` `>` `?` `\` `^` `|`
abbrev pub is_reserved : ℕ → Bool
is_reserved byte =
    byte == 34 || byte == 42 || byte == 43 || byte == 44 || byte == 60 || byte == 61
    || byte == 62 || byte == 63 || byte == 92 || byte == 94 || byte == 124

-- `^` and the two hex digits of a byte
abbrev pub caret_spelling : ℕ → List ℕ
caret_spelling byte = 94 ∷ hex_pair byte

-- how a byte is written: `/` as `=`, `:` as `+`, `.` as `,`; what lies outside 21 to 7e and what is reserved as `^hh`;
-- every other byte as itself
abbrev pub clean_spelling : ℕ → List ℕ
clean_spelling byte =
    if byte == 47 then 61 ∷ []
    else if byte == 58 then 43 ∷ []
    else if byte == 46 then 44 ∷ []
    else if nat_lt byte 33 || nat_lt 126 byte || is_reserved byte then caret_spelling byte
    else byte ∷ []

-- the cleaned text of an identifier
abbrev pub cleaned : List ℕ → List ℕ
cleaned id = flat_map clean_spelling id

-- a text in pieces of two, the last of one or two
abbrev pub pieces_of_two : List ℕ → Path
pieces_of_two [] = []
pieces_of_two (first ∷ []) = (first ∷ []) ∷ []
pieces_of_two (first ∷ second ∷ rest) = (first ∷ second ∷ []) ∷ pieces_of_two rest

-- the pairpath of an identifier: its cleaned text in pieces of two with `/` between
abbrev pub pairpath_of : List ℕ → List ℕ
pairpath_of id = joined (pieces_of_two (cleaned id))
