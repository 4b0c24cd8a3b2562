-- The first bytes of a list, and the place of the open file.
use Rattle.std.proofs.Common.{◌≡◌, ℕ, List, ◌∷◌, length, take, true, false, arith, inl, inr, sym, ap, ◌∙◌}
use Rattle.std.specs.Prelude.{Option, None, Some, is_some, min}
use Rattle.std.specs.Option.{option_map, option_or}
use Rattle.std.proofs.lemmas.List.{take_all}
use Rattle.std.proofs.lemmas.Bool.{cases_lt, true≢false, false≢true}
use Rattle.pt_tree.specs.Path.{Path}
use Rattle.pt_memory.specs.Opening.{moved_on}

pub take_min : (xs : List ℕ) (n : ℕ) → take (min (length xs) n) xs ≡ take n xs
take_min xs n = elim (cases_lt n (length xs)) [
  | inl below ↦ let same : min (length xs) n ≡ n = omega arith in ap (λ k. take k xs) same
  | inr past ↦ let same : min (length xs) n ≡ length xs = omega arith in ap (λ k. take k xs) same ∙ take_all (length xs) xs (omega arith)
      ∙ sym (take_all n xs past)
]

-- the open file is below a directory
pub moved_inside : (name : List ℕ) (inside moved after : Option (Path × ℕ)) (n : ℕ) → true ≡ is_some inside → moved ≡ moved_on inside n
    → option_or (option_map (λ o. (name ∷ o.0, o.1)) moved) after ≡ moved_on (option_or (option_map (λ o. (name ∷ o.0, o.1)) inside) after) n
moved_inside name None moved after n found is = absurd (true≢false found)
moved_inside name (Some o) moved after n found is = ap (λ m. option_or (option_map (λ o. (name ∷ o.0, o.1)) m) after) is

-- or after it
pub moved_behind : (name : List ℕ) (inside same after moved : Option (Path × ℕ)) (n m : ℕ) → false ≡ is_some inside → same ≡ moved_on inside m
    → moved ≡ moved_on after n
    → option_or (option_map (λ o. (name ∷ o.0, o.1)) same) moved ≡ moved_on (option_or (option_map (λ o. (name ∷ o.0, o.1)) inside) after) n
moved_behind name None same after moved n m found unmoved is = ap (λ s. option_or (option_map (λ o. (name ∷ o.0, o.1)) s) moved) unmoved ∙ is
moved_behind name (Some o) same after moved n m found unmoved is = absurd (false≢true found)

pub ruleset moves = (moved_inside, moved_behind)
