-- A folder that is a storage root or an object itself, by the names in it.
use Rattle.std.specs.Prelude.{◌≡◌, ◌↔◌, ℕ, Bool, IsTrue, IfOk, IfSome, List, Option, Result, codes, ◌∷◌, ◌++◌}
use Rattle.std.specs.declared.io.Error.{Error}

-- how the name of a declaration begins, behind the NUL that ends the name before it (OCFL 1.1, "Root Structure", "Object Conformance Declaration")
abbrev pub mark : List ℕ
mark = 0 ∷ codes "0=ocfl_"

-- the part stands somewhere in the bytes
abbrev pub HasPart : List ℕ → List ℕ → Type 0
HasPart part bytes = (before : List ℕ) × (after : List ℕ) × (bytes ≡ before ++ part ++ after)

-- of the names of a directory, each ended by a NUL, one is a declaration's
abbrev pub IsDeclared : List ℕ → Type 0
IsDeclared names = HasPart mark (0 ∷ names)

-- whether a directory whose names may be told so has such a name is answered so
abbrev pub TellsDeclared : {D : Type 0} → (D → Option (List ℕ)) → D → Result Bool Error → Type 0
TellsDeclared remaining dir answer = IfOk answer (λ found.
    IfSome (remaining dir) (λ names. IsTrue found ↔ IsDeclared names))
