-- How a list bears on the status of what is made.
use Rattle.std.proofs.Common.{◌≡◌, ℕ, zero, suc, ◌+◌, ◌<◌, Bool, true, false, List, [], ◌∷◌, ◌∙◌, ap, arith, length, refl, subst, take}
use Rattle.std.specs.List.{list_all}
use Rattle.std.specs.Option.{option_map}
use Rattle.std.specs.Prelude.{◌&&◌, Option, Some, None, is_none, is_some, not}
use Rattle.pt_host.specs.Ends.{EndsWithList, status_with}
use Rattle.pt_name.specs.Unmet.{unmet_there}

pub ends_with_list : (list : Option (List (List ℕ))) (has : Bool) (unmet : List (Option (List ℕ))) (plain status : ℕ) → has ≡ is_some list
    → (has ≡ false → status ≡ plain) → (has ≡ true → status ≡ status_with unmet plain) → EndsWithList list unmet plain status
ends_with_list None has unmet plain status is none some = none is
ends_with_list (Some ids) has unmet plain status is none some = some is

pub some_mapped : {A B : Type 0} (f : A → B) (o : Option A) → is_some (option_map f o) ≡ is_some o
some_mapped f None = refl
some_mapped f (Some x) = refl

-- ---- telling of each

and_true : (b : Bool) → (b && true) ≡ b
and_true true = refl
and_true false = refl

and_more : (b p q r : Bool) → p ≡ (q && r) → (b && p) ≡ ((b && q) && r)
and_more true p q r is = is
and_more false p q r is = refl

-- one position more
pub all_more : (unmet : List (Option (List ℕ))) (i : ℕ) → i < length unmet
    → list_all is_none (take (i + 1) unmet) ≡ (list_all is_none (take i unmet) && is_none (unmet_there unmet i))
all_more unmet i within =
    let same : suc i ≡ i + 1 = omega (arith) in
    subst (λ (n : ℕ). list_all is_none (take n unmet) ≡ (list_all is_none (take i unmet) && is_none (unmet_there unmet i))) same (by unmet i within)
  where
    by : (unmet : List (Option (List ℕ))) (i : ℕ) → i < length unmet
        → list_all is_none (take (suc i) unmet) ≡ (list_all is_none (take i unmet) && is_none (unmet_there unmet i))
    by [] i within = absurd (omega (arith, within))
    by (one ∷ more) zero within = and_true (is_none one)
    by (one ∷ more) (suc i) within = and_more (is_none one) _ _ _ (by more i (omega (arith, within)))

and_false : (b : Bool) → (b && false) ≡ false
and_false true = refl
and_false false = refl

-- where one is unmet there, not all so far are met
pub one_unmet : (unmet : List (Option (List ℕ))) (i : ℕ) (id : List ℕ) → i < length unmet → unmet_there unmet i ≡ Some id
    → not (list_all is_none (take (i + 1) unmet)) ≡ true
one_unmet unmet i id within there =
    ap not (all_more unmet i within ∙ ap (λ (o : Option (List ℕ)). list_all is_none (take i unmet) && is_none o) there
    ∙ and_false (list_all is_none (take i unmet)))

-- where none is, it is as before
pub none_unmet : (unmet : List (Option (List ℕ))) (i : ℕ) → i < length unmet → unmet_there unmet i ≡ None
    → not (list_all is_none (take (i + 1) unmet)) ≡ not (list_all is_none (take i unmet))
none_unmet unmet i within there =
    ap not (all_more unmet i within ∙ ap (λ (o : Option (List ℕ)). list_all is_none (take i unmet) && is_none o) there
    ∙ and_true (list_all is_none (take i unmet)))
