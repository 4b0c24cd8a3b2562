-- The prefix of a store, as its file holds it.
use Rattle.std.specs.Prelude.{ℕ, ◌-◌, ◌==◌, ◌||◌, Bool, codes, drop, nat_lt, take, if◌then◌else◌, List, [], ◌∷◌, length, Option, Some, None}
use Rattle.std.specs.Char.{is_control}
use Rattle.std.specs.List.{list_any}
use Rattle.std.specs.Str.{bytes_eq, chars, is_utf8}
use Rattle.pt_name.specs.declared.prefix.PrefixFault.{PrefixFault}
use Rattle.pt_name.specs.declared.prefix.PrefixFault.TheVariants as fault

-- LF or CR
abbrev pub ends_line : ℕ → Bool
ends_line byte = byte == 10 || byte == 13

-- a byte before what is kept of the rest; an LF or CR is kept only before something
abbrev pub kept_before : ℕ → List ℕ → List ℕ
kept_before byte [] = if ends_line byte then [] else byte ∷ []
kept_before byte (next ∷ rest) = byte ∷ next ∷ rest

-- all LF and CR at the end taken off
abbrev pub without_line_ends : List ℕ → List ℕ
without_line_ends [] = []
without_line_ends (byte ∷ rest) = kept_before byte (without_line_ends rest)

-- why a file's bytes are no prefix
abbrev pub prefix_refusal : List ℕ → Option PrefixFault
prefix_refusal bytes =
    if nat_lt 1024 (length bytes) then Some fault.TooLong
    else if is_utf8 (without_line_ends bytes) then None
    else Some fault.NotUtf8

-- the number of a refusal
abbrev pub prefix_number : PrefixFault → ℕ
prefix_number fault.TooLong = 1
prefix_number fault.NotUtf8 = 2
prefix_number fault.Memory = 3

-- a character that isn't seen: a control character, or a byte order mark
abbrev pub is_unseen : ℕ → Bool
is_unseen c = is_control c || c == 65279

-- a blank begins or ends it
abbrev pub has_outer_blank : List ℕ → Bool
has_outer_blank text =
    bytes_eq (take 1 text) (codes " ") || bytes_eq (drop (length text - 1) text) (codes " ")

-- a text that reads otherwise than it looks
abbrev pub is_doubtful : List ℕ → Bool
is_doubtful text = has_outer_blank text || list_any is_unseen (chars text)
