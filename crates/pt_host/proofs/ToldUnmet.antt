-- Telling of each identifier that is unmet.
use Rattle.std.proofs.Common.{◌≡◌, ℕ, zero, suc, ◌+◌, ◌<◌, Bool, true, false, List, [], ◌∷◌, arith, length, refl, subst, take}
use Rattle.std.specs.Prelude.{Option, Some, None, is_some}
use Rattle.pt_host.specs.Told.{TellsList, TellsOne, TellsUnlessFault, TellsUnmet}
use Rattle.pt_host.specs.declared.operation.Conclusion.{Conclusion}
use Rattle.pt_name.specs.Unmet.{unmet_there}

module _ {H : Type 0} (tells : List ℕ → H → H → Type 0) where
  one_more : (unmet : List (Option (List ℕ))) (i : ℕ) (id : List ℕ) (old mid new : H) → i < length unmet → unmet_there unmet i ≡ Some id
      → TellsUnmet tells (take i unmet) old mid → TellsOne tells id mid new → TellsUnmet tells (take (suc i) unmet) old new
  one_more [] i id old mid new within there before one = absurd (omega (arith, within))
  one_more (first ∷ more) zero id old mid new within there before one =
      rw there (new, subst (λ (h : H). TellsOne tells id h new) before one, refl)
  one_more (None ∷ more) (suc i) id old mid new within there before one =
      one_more more i id old mid new (omega (arith, within)) there before one
  one_more (Some first ∷ more) (suc i) id old mid new within there (told, here, before) one =
      (told, here, one_more more i id told mid new (omega (arith, within)) there before one)

  no_more : (unmet : List (Option (List ℕ))) (i : ℕ) (old new : H) → i < length unmet → unmet_there unmet i ≡ None
      → TellsUnmet tells (take i unmet) old new → TellsUnmet tells (take (suc i) unmet) old new
  no_more [] i old new within there before = absurd (omega (arith, within))
  no_more (first ∷ more) zero old new within there before = rw there before
  no_more (None ∷ more) (suc i) old new within there before = no_more more i old new (omega (arith, within)) there before
  no_more (Some first ∷ more) (suc i) old new within there (told, here, before) =
      (told, here, no_more more i told new (omega (arith, within)) there before)

  -- those before a position were told, and then the one there
  pub one_told : (unmet : List (Option (List ℕ))) (i : ℕ) (id : List ℕ) (old mid new : H) → i < length unmet → unmet_there unmet i ≡ Some id
      → TellsUnmet tells (take i unmet) old mid → TellsOne tells id mid new → TellsUnmet tells (take (i + 1) unmet) old new
  one_told unmet i id old mid new within there before one =
      let same : suc i ≡ i + 1 = omega arith in
      subst (λ (n : ℕ). TellsUnmet tells (take n unmet) old new) same (one_more unmet i id old mid new within there before one)

  -- or none is unmet there
  pub none_told : (unmet : List (Option (List ℕ))) (i : ℕ) (old new : H) → i < length unmet → unmet_there unmet i ≡ None
      → TellsUnmet tells (take i unmet) old new → TellsUnmet tells (take (i + 1) unmet) old new
  none_told unmet i old new within there before =
      let same : suc i ≡ i + 1 = omega arith in
      subst (λ (n : ℕ). TellsUnmet tells (take n unmet) old new) same (no_more unmet i old new within there before)

  -- with a list, or without one
  pub told_list : (list : Option (List (List ℕ))) (has : Bool) (plain : Conclusion) (old new : H) → has ≡ is_some list
      → (has ≡ false → new ≡ old) → (has ≡ true → TellsUnlessFault tells plain.status plain.unmet old new) → TellsList tells list plain old new
  told_list None has plain old new is none some = none is
  told_list (Some ids) has plain old new is none some = some is
