-- An entry planted at a path.
use Rattle.std.proofs.Common.{◌≡◌, ℕ, List, [], ◌∷◌, true, false, refl, ◌∙◌, ap}
use Rattle.std.specs.Prelude.{Bool, cond, Option, None, Some, is_some}
use Rattle.std.proofs.lemmas.Bool.{and_from}
use Rattle.pt_memory.specs.declared.planting.PlantFault.TheVariants as fault
use Rattle.pt_tree.specs.Name.{is_name}
use Rattle.pt_tree.specs.Path.{Path, parent, last_name}
use Rattle.pt_tree.specs.Forest.{Forest, none, Node, File, Dir, Other, find, is_proper, first_name, first_node, first_alone, inserted, changed}
use Rattle.pt_tree.specs.Tree.{Entry, Bytes, Folder, Special, Tree, entry_of, tree_of, put, CanMake}
use Rattle.pt_memory.specs.Planting.{is_folder, plant_refusal, leaf_of, leaf_entry, IsLeafOf}
use Rattle.pt_tree.proofs.Placing.{IsLeaf, absent_last, tree-planted}
use Rattle.pt_tree.proofs.Proper.{proper-changed, proper-inserted}

folder_is : (o : Option Entry) → is_folder o ≡ true → o ≡ Some Folder
folder_is None h = absurd (cc)
folder_is (Some (Bytes b)) h = absurd (cc)
folder_is (Some Folder) h = refl
folder_is (Some Special) h = absurd (cc)

pub none_there : {A : Type 0} (o : Option A) → is_some o ≡ false → o ≡ None
none_there None h = refl
none_there (Some x) h = absurd (cc)

-- where nothing refuses it, it may be made
pub can_plant : (t : Tree) (p : Path) → plant_refusal t p ≡ None → CanMake t p
can_plant t [] h = absurd (cc)
can_plant t (n ∷ p) h = by (is_folder (t (parent (n ∷ p)))) (is_some (t (n ∷ p))) refl refl h
  where
    by : (folder taken : Bool) → is_folder (t (parent (n ∷ p))) ≡ folder → is_some (t (n ∷ p)) ≡ taken
        → cond folder (cond taken (Some fault.Taken) None) (Some fault.NoParent) ≡ None → CanMake t (n ∷ p)
    by true false folder free h = record { absent = none_there _ free; in_folder = folder_is _ folder }
    by true true folder taken h = absurd (cc)
    by false b other taken h = absurd (cc)

-- and where it may be made, nothing refuses it
pub not_refused : (t : Tree) (p : Path) → CanMake t p → plant_refusal t p ≡ None
not_refused t [] can = absurd (cc (can.absent, can.in_folder))
not_refused t (n ∷ p) can = by (t (parent (n ∷ p))) (t (n ∷ p)) can.in_folder can.absent
  where
    by : (above here : Option Entry) → above ≡ Some Folder → here ≡ None
        → cond (is_folder above) (cond (is_some here) (Some fault.Taken) None) (Some fault.NoParent) ≡ None
    by None here folder absent = absurd (cc)
    by (Some (Bytes b)) here folder absent = absurd (cc)
    by (Some Special) here folder absent = absurd (cc)
    by (Some Folder) None folder absent = refl
    by (Some Folder) (Some e) folder absent = absurd (cc)

abbrev node_of_entry : Entry → Node
node_of_entry (Bytes b) = File b
node_of_entry Folder = Dir none
node_of_entry Special = Other

leaf_is : (e : Entry) → IsLeaf (node_of_entry e)
leaf_is (Bytes b) m rest = refl
leaf_is Folder m rest = refl
leaf_is Special m rest = refl

named : (n : List ℕ) (e : Entry) → first_name (leaf_of n e) ≡ n
named n (Bytes b) = refl
named n Folder = refl
named n Special = refl

holds : (n : List ℕ) (e : Entry) → first_node (leaf_of n e) ≡ Some (node_of_entry e)
holds n (Bytes b) = refl
holds n Folder = refl
holds n Special = refl

shown : (e : Entry) → entry_of (node_of_entry e) ≡ e
shown (Bytes b) = refl
shown Folder = refl
shown Special = refl

alone : (n : List ℕ) (e : Entry) → is_name n ≡ true → is_proper (first_alone (leaf_of n e)) ≡ true
alone n (Bytes b) name = and_from _ _ name refl
alone n Folder name = and_from _ _ name refl
alone n Special name = and_from _ _ name refl

pub tree_planted : (f leaf : Forest) (path : Path) → plant_refusal (tree_of f) path ≡ None → IsLeafOf (last_name path) leaf
    → tree_of (changed (inserted leaf) f (parent path)) ≡ put (tree_of f) path (leaf_entry leaf)
tree_planted f leaf path free is =
    let e = leaf_entry leaf in
    tree-planted leaf f path (node_of_entry e) (can_plant (tree_of f) path free) (ap first_name is.alone ∙ named (last_name path) e) (ap first_node is.alone
    ∙ holds (last_name path) e) (leaf_is e)
    ∙ ap (put (tree_of f) path) (shown e)

pub proper_planted : (f leaf : Forest) (path : Path) → plant_refusal (tree_of f) path ≡ None → IsLeafOf (last_name path) leaf → is_proper f ≡ true
    → is_proper (changed (inserted leaf) f (parent path)) ≡ true
proper_planted f leaf [] free is proper = absurd (cc)
proper_planted f leaf (n ∷ p) free is proper =
    let e = leaf_entry leaf in
    let can = can_plant (tree_of f) (n ∷ p) free in
    let first = ap first_name is.alone ∙ named (last_name (n ∷ p)) e in
    proper-changed (inserted leaf) f (parent (n ∷ p)) (λ d at proper_d.
    proper-inserted leaf d (node_of_entry e) (ap first_node is.alone ∙ holds (last_name (n ∷ p)) e)
    (ap (λ (g : Forest). is_proper (first_alone g)) is.alone ∙ alone (last_name (n ∷ p)) e is.name)
    (ap (find d) first ∙ absent_last f n p d at can.absent) proper_d) proper
