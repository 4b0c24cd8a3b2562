-- The names that a directory's entries may have.
use Rattle.std.specs.Prelude.{◌≡◌, ℕ, Bool, true, ◌||◌, ◌==◌, cond, nat_lt, List, [], ◌∷◌, length, Option, None, Some, is_none}
use Rattle.std.specs.List.{All, list_any}
use Rattle.std.specs.Str.{bytes_eq, is_utf8}
use Rattle.pt_tree.specs.declared.name.NameFault.{NameFault}
use Rattle.pt_tree.specs.declared.name.NameFault.TheVariants as fault

-- holds `/` or NUL, or is `.` or `..`
abbrev pub is_forbidden_name : List ℕ → Bool
is_forbidden_name bytes =
    list_any (λ b. b == 47) bytes || list_any (λ b. b == 0) bytes || bytes_eq bytes (46 ∷ [])
    || bytes_eq bytes (46 ∷ 46 ∷ [])

-- why these bytes are no name; nothing, if they are one
abbrev pub name_refusal : List ℕ → Option NameFault
name_refusal bytes =
    cond (length bytes == 0) (Some fault.Empty)
    (cond (nat_lt 255 (length bytes)) (Some fault.TooLong)
    (cond (is_utf8 bytes) (cond (is_forbidden_name bytes) (Some fault.Forbidden) None) (Some fault.NotUtf8)))

-- 1 to 255 bytes of UTF-8 without `/` and NUL, neither `.` nor `..`
abbrev pub is_name : List ℕ → Bool
is_name bytes = is_none (name_refusal bytes)

-- each of these may be a name
abbrev pub AreNames : List (List ℕ) → Type 0
AreNames names = All (λ n. is_name n ≡ true) names

-- the number of a refusal
abbrev pub name_number : NameFault → ℕ
name_number fault.Empty = 1
name_number fault.TooLong = 2
name_number fault.NotUtf8 = 3
name_number fault.Forbidden = 4
name_number fault.Memory = 5
