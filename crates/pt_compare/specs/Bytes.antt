-- What is left to read of the open file of a root.
use Rattle.std.specs.Prelude.{◌≡◌, ◌≢◌, ◌*◌, ◌==◌, ◌++◌, ◌⊎◌, [], ℕ, Bool, List, length, Option, Some}
use Rattle.std.specs.Global.{Vec}
use Rattle.std.specs.Option.{option_and_then, ForSome}
use Rattle.std.specs.Str.{bytes_eq}
use Rattle.pt_tree.specs.Source.{Reading}

-- the bytes of the open file that are left to read, where the root tells
abbrev pub left_in : Option Reading → Option (List ℕ)
left_in told = option_and_then (λ s. s.unread) told

-- these bytes came next, and the rest is left
unfoldable pub CameNext : List ℕ → Option Reading → Option Reading → Type 0
CameNext bytes old new =
    ForSome (left_in old) (λ left. (rest : List ℕ) × (left_in new ≡ Some rest)
    × (left ≡ bytes ++ rest))

-- they end the file, or fill whole blocks
abbrev pub EndsBlock : List ℕ → List ℕ → Type 0
EndsBlock bytes rest = (rest ≡ []) ⊎ ((blocks : ℕ) × (length bytes ≡ blocks * 8192))

-- other bytes came next
unfoldable pub IsNotNext : List ℕ → Option Reading → Type 0
IsNotNext bytes old =
    ForSome (left_in old) (λ left. (rest : List ℕ) → EndsBlock bytes rest → left ≢ bytes ++ rest)

-- whether nothing is left
unfoldable pub TellsEnd : Option Reading → Bool → Type 0
TellsEnd old ended = ForSome (left_in old) (λ left. ended ≡ (length left == 0))

-- whether just these bytes are left
unfoldable pub TellsRest : List ℕ → Option Reading → Bool → Type 0
TellsRest bytes old same = ForSome (left_in old) (λ left. same ≡ bytes_eq left bytes)

-- all that is left
unfoldable pub IsAllLeft : Option Reading → Vec ℕ → Type 0
IsAllLeft old bytes = ForSome (left_in old) (λ left. bytes.items ≡ left)
