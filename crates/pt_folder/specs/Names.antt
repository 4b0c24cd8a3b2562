-- The names that a directory of the system gives.
use Rattle.std.specs.Prelude.{◌≡◌, ◌≢◌, ◌⊎◌, ◌<◌, ◌≤◌, ℕ, Bool, true, false, not, ◌||◌, List, [], ◌∷◌, ◌++◌, length}
use Rattle.std.specs.List.{All, filter, flat_map}
use Rattle.std.specs.Str.{bytes_eq}
use Rattle.pt_tree.specs.Name.{is_name}

-- neither `.` nor `..`
abbrev pub is_entry : List ℕ → Bool
is_entry name = not (bytes_eq name (46 ∷ []) || bytes_eq name (46 ∷ 46 ∷ []))

-- holds no NUL
abbrev pub LacksNul : List ℕ → Type 0
LacksNul name = All (λ b. b ≢ 0) name

-- the name, and a NUL that ends it
abbrev pub ended : List ℕ → List ℕ
ended name = name ++ 0 ∷ []

-- the bytes are names, a NUL behind each, and these are all of them but `.` and `..`, in their order
pub record GivesNames (bytes : List ℕ) (names : List (List ℕ)) : Type 0 where
  pub given : List (List ℕ)
  pub cut : bytes ≡ flat_map ended given
  pub whole : All LacksNul given
  pub kept : names ≡ filter is_entry given

-- the bytes give more names
pub record AddsNames (bytes : List ℕ) (old new : List (List ℕ)) : Type 0 where
  pub more : List (List ℕ)
  pub added : new ≡ old ++ more
  pub given : GivesNames bytes more

-- why a name isn't added to these: it would be one too many, or no entry may have it
abbrev pub IsRefusedName : ℕ → List (List ℕ) → List ℕ → Type 0
IsRefusedName most names name = (is_entry name ≡ true) × ((most ≤ length names) ⊎ (is_name name ≡ false))

-- bytes without a NUL behind them, or a name that isn't added
abbrev pub EndsNames : (List ℕ → Type 0) → List ℕ → Type 0
EndsNames refuses rest = ((0 < length rest) × LacksNul rest)
    ⊎ ((name : List ℕ) × (more : List ℕ) × (rest ≡ ended name ++ more) × LacksNul name
    × refuses name)

-- the bytes give names that are added, and behind them comes what isn't
pub record RefusesBytes (refuses : List (List ℕ) → List ℕ → Type 0) (old : List (List ℕ))
    (bytes : List ℕ) : Type 0 where
  pub front : List ℕ
  pub rest : List ℕ
  pub names : List (List ℕ)
  pub cut : bytes ≡ front ++ rest
  pub added : AddsNames front old names
  pub refused : EndsNames (refuses names) rest
