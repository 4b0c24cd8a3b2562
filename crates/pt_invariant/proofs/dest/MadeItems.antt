-- Items that are made one after another.
use Rattle.std.proofs.Common.{◌≡◌, ℕ, suc, List, [], ◌∷◌, ◌++◌, refl, ap, ◌∙◌, take}
use Rattle.std.specs.Prelude.{Some, slice_get}
use Rattle.pt_object.specs.Script.{Item, MakeFile, MakeFolder, done, made}
use Rattle.pt_tree.specs.Dest.{Writing}
use Rattle.pt_tree.specs.Tree.{Tree}
use Rattle.pt_plan.specs.DeviceStates.{after_make}
use Rattle.pt_invariant.proofs.Tests.{take_one}

pub made_in_turn : (first later : List Item) (t : Tree) → made (first ++ later) t ≡ made later (made first t)
made_in_turn [] later t = refl
made_in_turn (item ∷ first) later t = made_in_turn first later (done item t)

-- one item more
pub made_more : (script : List Item) (n : ℕ) (item : Item) (t : Tree) → slice_get script n ≡ Some item
    → made (take (suc n) script) t ≡ done item (made (take n script) t)
made_more script n item t is = ap (λ (l : List Item). made l t) (take_one n script item is) ∙ made_in_turn (take n script) (item ∷ []) t

-- what a destination holds where an item was made
pub tree_made : (item : Item) (w : Writing) → (after_make item w).tree ≡ done item w.tree
tree_made (MakeFolder path) w = refl
tree_made (MakeFile path bytes) w = refl
