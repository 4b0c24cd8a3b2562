-- What a rehearsal tells is a tree.
use Rattle.std.specs.Prelude.{◌≡◌, List, Option, None, Some, refl}
use Rattle.std.proofs.Common.{subst}
use Rattle.std.proofs.Math.Logic.{∥∥₁_elim}
use Rattle.pt_rehearsal.specs.Steps.{Step, played}
use Rattle.pt_tree.specs.Dest.{Writing}
use Rattle.pt_tree.specs.Tree.{IsTree}
use Rattle.pt_folder.specs.EntryCodes.{tree_once}
use Rattle.pt_rehearsal.specs.Fitting.{FitsTold, told_over}
use Rattle.pt_rehearsal.specs.Seeing.{View}

-- what a rehearsal tells is a tree
pub tree_of_rehearsal : (told : Option Writing) (v : View) (steps : List Step) (state : Writing)
    → ∥ FitsTold told v steps ∥₁ → told_over told steps ≡ Some state → IsTree state.tree
tree_of_rehearsal told v steps state fits is = ∥∥₁_elim fits (tree_once state.tree) (λ f. by told f is)
  where
    by : (told : Option Writing) → FitsTold told v steps → told_over told steps ≡ Some state
        → IsTree state.tree
    by None f is = absurd (cc)
    by (Some w) f is =
        let same : played steps w.tree ≡ state = cc in
        subst (λ (s : Writing). IsTree s.tree) same (f w refl).tree
