-- A text with `/` after each second character, character by character, and as pieces of two.
use Rattle.std.proofs.Common.{
  ◌≡◌,
  ℕ,
  ◌+◌,
  ◌%◌,
  ◌<◌,
  ◌==◌,
  cond,
  ◌&&◌,
  Bool,
  true,
  false,
  List,
  [],
  ◌∷◌,
  ◌++◌,
  get_or,
  length,
  drop,
  refl,
  sym,
  ap,
  ◌∙◌,
  arith,
  add-one,
  append_assoc,
  append-nil,
  ◌≤◌,
  drop-cons,
  nat_lt,
}
use Rattle.std.proofs.lemmas.List.{drop_all}
use Rattle.pt_tree.specs.Path.{joined}
use Rattle.pt_name.specs.Clean.{pieces_of_two}

-- what is written of the characters from the i-th on
abbrev pub spaced : ℕ → List ℕ → List ℕ
spaced i [] = []
spaced i (x ∷ xs) = cond (nat_lt 0 i && (i % 2 == 0)) (47 ∷ x ∷ spaced (i + 1) xs) (x ∷ spaced (i + 1) xs)

-- what follows a whole piece: `/` and the rest, if there is a rest
abbrev after_piece : List ℕ → List ℕ
after_piece [] = []
after_piece (x ∷ xs) = 47 ∷ joined (pieces_of_two (x ∷ xs))

-- a first piece of two, and the rest
joined-two : (x y : ℕ) (xs : List ℕ) → joined (pieces_of_two (x ∷ y ∷ xs)) ≡ x ∷ y ∷ after_piece xs
joined-two x y [] = refl
joined-two x y (z ∷ []) = refl
joined-two x y (z ∷ w ∷ xs) = refl

-- at an even place that isn't the first
spaced-even : (i : ℕ) (xs : List ℕ) → 0 < i → i % 2 ≡ 0 → spaced i xs ≡ after_piece xs
spaced-even i [] p e = refl
spaced-even i (x ∷ []) p e = grind (arith)
spaced-even i (x ∷ y ∷ xs) p e =
    let rest = spaced-even (i + 1 + 1) xs (omega arith) (omega arith) in
    let whole = joined-two x y xs in
    grind (arith, rest, whole)

-- from the start
pub spaced_whole : (xs : List ℕ) → spaced 0 xs ≡ joined (pieces_of_two xs)
spaced_whole [] = refl
spaced_whole (x ∷ []) = refl
spaced_whole (x ∷ y ∷ xs) =
    let rest = spaced-even 2 xs (omega arith) (omega arith) in
    let whole = joined-two x y xs in
    grind (arith, rest, whole)

-- one more character, behind a `/` where there is one
pub spaced_more : (xs : List ℕ) (i : ℕ) (t u v whole : List ℕ) (slash : Bool) → i < length xs → (nat_lt 0 i && (i % 2 == 0)) ≡ slash
    → u ≡ t ++ cond slash (47 ∷ []) []
    → v ≡ u ++ get_or xs i 0 ∷ [] → t ++ spaced i (drop i xs) ≡ whole → v ++ spaced (i + 1) (drop (i + 1) xs) ≡ whole
spaced_more xs i t u v whole slash within test first last so_far =
    let x = get_or xs i 0 in
    let rest = spaced (i + 1) (drop (i + 1) xs) in
    let front : drop i xs ≡ x ∷ drop (i + 1) xs = rw add-one (drop-cons xs i 0 within) in
    let here : spaced i (drop i xs) ≡ cond slash (47 ∷ []) [] ++ x ∷ rest = ap (spaced i) front ∙ ap (λ (s : Bool). cond s (47 ∷ x ∷ rest) (x ∷ rest)) test
    ∙ split slash x rest in
    ap (λ (l : List ℕ). l ++ rest) (last ∙ ap (λ (l : List ℕ). l ++ x ∷ []) first)
    ∙ append_assoc (t ++ cond slash (47 ∷ []) []) (x ∷ []) rest
    ∙ append_assoc t (cond slash (47 ∷ []) []) (x ∷ rest)
    ∙ ap (λ (l : List ℕ). t ++ l) (sym here)
    ∙ so_far
  where
    split : (slash : Bool) (x : ℕ) (rest : List ℕ) → cond slash (47 ∷ x ∷ rest) (x ∷ rest) ≡ cond slash (47 ∷ []) [] ++ x ∷ rest
    split true x rest = refl
    split false x rest = refl

-- at the end nothing is left
pub spaced_end : (xs : List ℕ) (i : ℕ) (t whole : List ℕ) → length xs ≤ i → t ++ spaced i (drop i xs) ≡ whole → t ≡ whole
spaced_end xs i t whole last so_far = sym (append-nil t) ∙ ap (λ (l : List ℕ). t ++ spaced i l) (sym (drop_all i xs last)) ∙ so_far
