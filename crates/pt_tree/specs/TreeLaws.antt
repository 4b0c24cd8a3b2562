-- What a source's tree shows path by path is a tree.
use Rattle.std.specs.Prelude.{◌≡◌, ℕ, List, [], ◌∷◌, ◌++◌, Option, None, Some, IsSome, refl}
use Rattle.std.specs.Option.{option_map, option_and_then}
use Rattle.pt_tree.specs.Forest.{Forest, Node, File, Dir, Other, find, node_at}
use Rattle.pt_tree.specs.Path.{Path}
use Rattle.pt_tree.specs.Tree.{Entry, Folder, IsTree, entry_of, tree_of}

-- what stands at a path from a node
abbrev pub entry_below : Node → Path → Option Entry
entry_below node path = option_map entry_of (node_at node path)

-- what stands below a path has a folder there
pub in_folder : (x : Node) (p : Path) (n : List ℕ) → IsSome (entry_below x (p ++ n ∷ []))
    → entry_below x p ≡ Some Folder
in_folder (File b) [] n h = absurd (cc)
in_folder Other [] n h = absurd (cc)
in_folder (Dir e) [] n h = refl
in_folder (File b) (m ∷ p) n h = absurd (cc)
in_folder Other (m ∷ p) n h = absurd (cc)
in_folder (Dir e) (m ∷ p) n h = by (λ x h. in_folder x p n h) (find e m) h
  where
    by : ((x : Node) → IsSome (entry_below x (p ++ n ∷ [])) → entry_below x p ≡ Some Folder)
        → (o : Option Node)
        → IsSome (option_map entry_of (option_and_then (λ node. node_at node (p ++ n ∷ [])) o))
        → option_map entry_of (option_and_then (λ node. node_at node p) o) ≡ Some Folder
    by later None h = absurd (cc)
    by later (Some x) h = later x h

-- what a forest shows is a tree
pub IsTree-tree_of : (f : Forest) → IsTree (tree_of f)
IsTree-tree_of f = record { top = refl; above = λ p n. in_folder (Dir f) p n }
