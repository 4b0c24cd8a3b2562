-- What was moved, and is moved back.
use Rattle.std.proofs.Common.{◌≡◌, ◌∙◌, ◌++◌, refl, sym, ap}
use Rattle.std.specs.Prelude.{Option, None, Some}
use Rattle.pt_tree.specs.Path.{Path, rest_below}
use Rattle.pt_tree.specs.Tree.{CanMove, IsTree, Tree, moved, moved_at}
use Rattle.pt_tree.proofs.Below.{gap_below, rest_of, whole_of}

module _ (t : Tree) (from to : Path) (tree : IsTree t) (can : CanMove t from to) where
  back_at : (q : Path) → moved (moved t from to) to from q ≡ t q
  back_at q = by (rest_below from q) (rest_below to q) refl refl
    where
      by : (a b : Option Path) → rest_below from q ≡ a → rest_below to q ≡ b → moved_at (moved t from to) to a b q ≡ t q
      by (Some rest) b here there =
          ap (λ o. moved_at t from o (rest_below from (to ++ rest)) (to ++ rest)) (rest_of to rest) ∙ ap t (sym (whole_of from q rest here))
      by None (Some rest) here there =
          sym (ap t (whole_of to q rest there) ∙ gap_below t tree to rest can.target.absent)
      by None None here there =
          ap (λ o. moved_at t from o (rest_below from q) q) there ∙ ap (λ o. moved_at t from None o q) here

  -- all is where it was
  pub back : moved (moved t from to) to from ≡ t
  back i q = back_at q i
