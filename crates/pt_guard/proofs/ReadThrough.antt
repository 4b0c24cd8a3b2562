-- A directory that is read to its end.
use Rattle.std.proofs.Common.{◌≡◌, ◌↔◌, ◌++◌, ◌∷◌, [], ℕ, Bool, IsTrue, List, None, Some, IfSome, append-nil, subst, sym, ap, ◌∙◌}
use Rattle.std.specs.Prelude.{Option}
use Rattle.std.specs.Io.KnownBytes.{Consumes, IsAtEnd}
use Rattle.std.proofs.KnownBytes.{Consumes-all, Consumes-trans}
use Rattle.pt_guard.specs.Declaration.{HasPart, IsDeclared, mark}

-- what was read of it stands behind a NUL
abbrev pub HasRead : Option (List ℕ) → Option (List ℕ) → List ℕ → Type 0
HasRead old now names = (read : List ℕ) × Consumes old now read × (names ≡ 0 ∷ read)

pub reads_more : (old now next : Option (List ℕ)) (names new piece : List ℕ) → HasRead old now names → Consumes now next piece → new ≡ names ++ piece
    → HasRead old next new
reads_more old now next names new piece (read, read-so, names-are) more new-is =
    (read ++ piece, Consumes-trans old now next read piece read-so more, new-is ∙ ap (λ l. l ++ piece) names-are)

-- at its end all its names were looked through
pub looked_through : (old now last : Option (List ℕ)) (names : List ℕ) (found : Bool) → HasRead old now names → Consumes now last [] → IsAtEnd last
    → (IsTrue found ↔ HasPart mark names)
    → IfSome old (λ all. IsTrue found ↔ IsDeclared all)
looked_through None now last names found has none end looked = tt
looked_through (Some all) now last names found has none end looked =
    let whole = reads_more (Some all) now last names names [] has none (sym (append-nil names)) in
    subst (λ l. IsTrue found ↔ HasPart mark l) (Consumes-all (Some all) last whole.0 (0 ∷ []) names whole.1 end whole.2) looked
