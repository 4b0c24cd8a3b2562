-- The names of a path with nothing between, name by name.
use Rattle.std.proofs.Common.{
  ◌≡◌,
  ℕ,
  zero,
  suc,
  ◌+◌,
  ◌<◌,
  List,
  [],
  ◌∷◌,
  ◌++◌,
  Some,
  None,
  take,
  length,
  sym,
  ap,
  ◌∙◌,
  arith,
  append_assoc,
  append-nil,
  slice_get,
}
use Rattle.std.specs.List.{concat}

-- one more name
more : (names : List (List ℕ)) (i : ℕ) (name : List ℕ) → slice_get names i ≡ Some name
    → concat (take i names) ++ name ≡ concat (take (suc i) names)
more [] i name e = cc e
more (first ∷ names) zero name e = let same : name ≡ first = cc e in same ∙ sym (append-nil first)
more (first ∷ names) (suc i) name e =
    append_assoc first (concat (take i names)) name ∙ ap (λ text. first ++ text) (more names i name e)

pub concat_more : (names : List (List ℕ)) (i : ℕ) (name : List ℕ) → slice_get names i ≡ Some name
    → concat (take i names) ++ name ≡ concat (take (i + 1) names)
concat_more names i name e =
    let next : suc i ≡ i + 1 = omega arith in
    more names i name e ∙ ap (λ n. concat (take n names)) next

-- there is a name at each place within
pub name_there : (names : List (List ℕ)) (i : ℕ) → i < length names → slice_get names i ≡ None → ⊥
name_there [] i h e = omega arith
name_there (first ∷ names) zero h e = cc e
name_there (first ∷ names) (suc i) h e = name_there names i (omega arith) e
