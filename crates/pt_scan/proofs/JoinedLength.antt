-- How many bytes names have with `/` between them.
use Rattle.std.proofs.Common.{◌≡◌, ℕ, List, [], ◌∷◌, ◌++◌, ◌+◌, ◌<◌, ◌≤◌, ◌⊎◌, inl, inr, length, take, get_or, true, refl, arith, ap}
use Rattle.std.proofs.lemmas.List.{length-append}
use Rattle.pt_tree.specs.Name.{is_name}
use Rattle.pt_state.proofs.Words.{Path, joined}
use Rattle.pt_tree.proofs.Joining.{joined_more}

-- a slash stands before each name but the first
pub length_more : (names : Path) (i : ℕ) (n : List ℕ) (slash : ℕ) → i < length names → n ≡ get_or names i n → ((0 < i) × (slash ≡ 1)) ⊎ ((i ≡ 0) × (slash ≡ 0))
    → length (joined (take i names)) + slash + length n ≡ length (joined (take (i + 1) names))
length_more names i n slash within is how = elim how [
  | inl later ↦
      let text = joined (take i names) in
      let whole = joined_more names i n text (text ++ 47 ∷ []) within is refl (inl (later.0, refl)) in
      let all = ap length whole in
      let first = length-append (text ++ 47 ∷ []) n in
      let front = length-append text (47 ∷ []) in
      let one = later.1 in
      omega (arith, all, first, front, one)
  | inr start ↦
      let text = joined (take i names) in
      let whole = joined_more names i n text text within is refl (inr (start.0, refl)) in
      let all = ap length whole in
      let first = length-append text n in
      let none = start.1 in
      omega (arith, all, first, none)
]

-- a name is short
pub name_short : (name : List ℕ) → is_name name ≡ true → length name ≤ 255
name_short name h = grind (arith, h)
