-- A text in pieces, as its slashes cut it.
use Rattle.std.specs.Prelude.{◌≡◌, ◌⊎◌, ℕ, ◌==◌, cond, List, [], ◌∷◌, ◌++◌, Option, None, Some}
use Rattle.pt_tree.specs.Name.{name_refusal}
use Rattle.pt_tree.specs.Path.{Path}
use Rattle.pt_tree.specs.declared.name.NameFault.{NameFault}
use Rattle.pt_tree.specs.declared.name.NameFault.TheVariants as fault

-- with more in front of the first piece
abbrev pub onto : List ℕ → Path → Path
onto front [] = front ∷ []
onto front (x ∷ p) = (front ++ x) ∷ p

-- a text in pieces, as its slashes cut it
abbrev pub pieces : List ℕ → Path
pieces [] = [] ∷ []
pieces (b ∷ bytes) = cond (b == 47) ([] ∷ pieces bytes) (onto (b ∷ []) (pieces bytes))

-- the names of a path's text; the top's is empty
abbrev pub names_in : List ℕ → Path
names_in [] = []
names_in (b ∷ bytes) = pieces (b ∷ bytes)

-- the first of two refusals
abbrev pub earlier : Option NameFault → Option NameFault → Option NameFault
earlier None later = later
earlier (Some refusal) later = Some refusal

-- why the first of these that is no name is none; nothing, if each is one
abbrev pub first_refusal : Path → Option NameFault
first_refusal [] = None
first_refusal (n ∷ names) = earlier (name_refusal n) (first_refusal names)

-- why these were not made a path
abbrev pub IsRefusal : Path → NameFault → Type 0
IsRefusal names e = (e ≡ fault.Memory) ⊎ (first_refusal names ≡ Some e)
