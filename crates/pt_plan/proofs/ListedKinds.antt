-- The kind of an entry, which is looked for from the first one on.
use Rattle.std.proofs.Common.{◌≡◌, ◌≤◌, ◌+◌, ℕ, zero, suc, Bool, true, false, cond, List, [], ◌∷◌, refl, sym, ◌∙◌, drop, length, arith}
use Rattle.std.specs.Prelude.{Option, None, Some, slice_get}
use Rattle.std.specs.Str.{bytes_eq}
use Rattle.pt_plan.specs.ListedKinds.{kind_if_named}
use Rattle.pt_plan.specs.TurnStart.{kind_in}
use Rattle.pt_tree.specs.Listing.{Item as Entry}
use Rattle.pt_tree.specs.declared.kind.Kind.{Kind}

-- so far none has the name
module _ (xs : List Entry) (name : List ℕ) (i : ℕ) (so_far : kind_in xs name ≡ kind_in (drop i xs) name) where
  pub kind_found : (here : Kind) → Some here ≡ kind_if_named (slice_get xs i) name → Some here ≡ kind_in xs name
  kind_found here is = at xs i is ∙ sym so_far
    where
      one : (x : Entry) (rest : Option Kind) (b : Bool) → Some here ≡ cond b (Some x.1) None → Some here ≡ cond b (Some x.1) rest
      one x rest true is = is
      one x rest false is = absurd (cc)

      at : (xs : List Entry) (i : ℕ) → Some here ≡ kind_if_named (slice_get xs i) name → Some here ≡ kind_in (drop i xs) name
      at [] i is = absurd (cc)
      at (x ∷ xs) zero is = one x (kind_in xs name) (bytes_eq x.0 name) is
      at (x ∷ xs) (suc i) is = at xs i is

  pub kind_passed : None ≡ kind_if_named (slice_get xs i) name → kind_in xs name ≡ kind_in (drop (i + 1) xs) name
  kind_passed is = let e : i + 1 ≡ suc i = omega arith in rw e (so_far ∙ at xs i is)
    where
      one : (x : Entry) (rest : Option Kind) (b : Bool) → None ≡ cond b (Some x.1) None → cond b (Some x.1) rest ≡ rest
      one x rest true is = absurd (cc)
      one x rest false is = refl

      at : (xs : List Entry) (i : ℕ) → None ≡ kind_if_named (slice_get xs i) name → kind_in (drop i xs) name ≡ kind_in (drop (suc i) xs) name
      at [] zero is = refl
      at [] (suc i) is = refl
      at (x ∷ xs) zero is = one x (kind_in xs name) (bytes_eq x.0 name) is
      at (x ∷ xs) (suc i) is = at xs i is

  pub kind_past : length xs ≤ i → None ≡ kind_in xs name
  kind_past past = at xs i past ∙ sym so_far
    where
      at : (xs : List Entry) (i : ℕ) → length xs ≤ i → None ≡ kind_in (drop i xs) name
      at [] zero past = refl
      at [] (suc i) past = refl
      at (x ∷ xs) zero past = absurd (omega (arith, past))
      at (x ∷ xs) (suc i) past = at xs i (omega (arith, past))

pub ruleset finding_kind = (kind_found, kind_passed, kind_past)
