-- A listing from which entries are taken away.
use Rattle.std.proofs.Common.{◌≡◌, ℕ, List, [], ◌∷◌, true, refl, ap, ◌∙◌, inl, inr}
use Rattle.std.specs.Prelude.{Bool}
use Rattle.std.specs.List.{filter}
use Rattle.std.proofs.lemmas.Bool.{and_parts, and_from, cases_Bool, cond-true, cond-false}
use Rattle.pt_tree.specs.Listing.{Item, is_before, left_in, names_rise}
use Rattle.pt_tree.proofs.Names.{before-trans}

-- without the second, the names rise still
without_second : (x y : Item) (items : List Item) → names_rise (x ∷ y ∷ items) ≡ true → names_rise (x ∷ items) ≡ true
without_second x y [] rise = refl
without_second x y (z ∷ items) rise =
    let first = and_parts (is_before x.0 y.0) (names_rise (y ∷ z ∷ items)) rise in
    let later = and_parts (is_before y.0 z.0) (names_rise (z ∷ items)) first.1 in
    and_from _ _ (before-trans x.0 y.0 z.0 first.0 later.0) later.1

behind_first : (test : Item → Bool) (x : Item) (items : List Item) → names_rise (x ∷ items) ≡ true → names_rise (x ∷ filter test items) ≡ true
behind_first test x [] rise = refl
behind_first test x (y ∷ items) rise = elim (cases_Bool (test y)) [
  | inl stays ↦
      let parts = and_parts (is_before x.0 y.0) (names_rise (y ∷ items)) rise in
      ap (λ (rest : List Item). names_rise (x ∷ rest)) (cond-true (test y) (y ∷ filter test items) (filter test items) stays)
      ∙ and_from _ _ parts.0 (behind_first test y items parts.1)
  | inr goes ↦
      ap (λ (rest : List Item). names_rise (x ∷ rest)) (cond-false (test y) (y ∷ filter test items) (filter test items) goes)
      ∙ behind_first test x items (without_second x y items rise)
]

-- what is left of names that rise, rises
pub names_rise-filter : (test : Item → Bool) (items : List Item) → names_rise items ≡ true → names_rise (filter test items) ≡ true
names_rise-filter test [] rise = refl
names_rise-filter test (x ∷ items) rise = elim (cases_Bool (test x)) [
  | inl stays ↦ ap names_rise (cond-true (test x) (x ∷ filter test items) (filter test items) stays) ∙ behind_first test x items rise
  | inr goes ↦ ap names_rise (cond-false (test x) (x ∷ filter test items) (filter test items) goes) ∙ names_rise-filter test items (tail_rises x items rise)
]
  where
    tail_rises : (x : Item) (items : List Item) → names_rise (x ∷ items) ≡ true → names_rise items ≡ true
    tail_rises x [] rise = refl
    tail_rises x (y ∷ items) rise = (and_parts (is_before x.0 y.0) (names_rise (y ∷ items)) rise).1

pub left_in-rises : (names : List (List ℕ)) (items : List Item) → names_rise items ≡ true → names_rise (left_in names items) ≡ true
left_in-rises names items rise = names_rise-filter _ items rise

pub ruleset leaving = (left_in-rises)
