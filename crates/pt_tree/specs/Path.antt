-- Paths, as lists of names.
use Rattle.std.specs.Prelude.{ℕ, Bool, cond, List, [], ◌∷◌, Option, None, Some, nat_eq}
use Rattle.std.specs.Str.{bytes_eq}
use denote.Ref.{Bor}
use Rattle.std.specs.List.{join_with_byte}
use Rattle.std.specs.Cmp.Lexicographic.{pointwise}

-- the names from the top to an entry; the empty path is the top
abbrev pub Path : Type 0
Path = List (List ℕ)

-- p and q are one path
abbrev pub same_path : Path → Path → Bool
same_path = pointwise (pointwise nat_eq)

-- the names with `/` between them
abbrev pub joined : Path → List ℕ
joined = join_with_byte 47

-- q from below p on, if it is at or below p
abbrev pub rest_below : Path → Path → Option Path
rest_below [] q = Some q
rest_below (x ∷ p) [] = None
rest_below (x ∷ p) (y ∷ q) = cond (bytes_eq x y) (rest_below p q) None

-- the path without its last name; that of the top is the top
abbrev pub parent : Path → Path
parent [] = []
parent (x ∷ []) = []
parent (x ∷ y ∷ p) = x ∷ parent (y ∷ p)

-- the last name; that of the top is empty
abbrev pub last_name : Path → List ℕ
last_name [] = []
last_name (x ∷ []) = x
last_name (x ∷ y ∷ p) = last_name (y ∷ p)

-- the parent and the last name; nothing for the top
abbrev pub split_path : Path → Option (Path × List ℕ)
split_path [] = None
split_path (x ∷ p) = Some (parent (x ∷ p), last_name (x ∷ p))

-- a path and a name behind it, which were lent
abbrev pub split_lent : Bor Path × Bor (List ℕ) → Path × List ℕ
split_lent s = (s.0.now, s.1.now)

-- not the top
abbrev pub IsBelowTop : Path → Type 0
IsBelowTop [] = ⊥
IsBelowTop (x ∷ p) = Unit {0}
