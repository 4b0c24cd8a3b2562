-- What stands at each path after a change of one directory.
use Rattle.std.proofs.Common.{◌≡◌, ℕ, List, [], ◌∷◌, true, false, refl, sym, ◌∙◌, ap}
use Rattle.std.specs.Prelude.{Bool, cond, Option, None, Some}
use Rattle.std.specs.Option.{option_map, option_and_then}
use Rattle.std.specs.Str.{bytes_eq}
use Rattle.std.proofs.lemmas.Bool.{cond-true, cond-false}
use Rattle.pt_tree.specs.Path.{Path, rest_below}
use Rattle.pt_tree.specs.Forest.{
  Forest,
  Node,
  File,
  Dir,
  Other,
  find,
  node_at,
  as_dir,
  dir_at,
  is_proper,
  first_name,
  first_node,
  inserted,
  removed,
  rewritten,
  changed,
}
use Rattle.pt_tree.specs.Tree.{Entry, entry_of, tree_of, edited_by}
use Rattle.pt_tree.specs.TreeLaws.{entry_below}
use Rattle.pt_tree.proofs.Names.{same_name}
use Rattle.pt_tree.proofs.Finding.{find-inserted, find-removed, find-rewritten, find-changed, node_edited}

-- with what `below` says of the rest, where there is one
abbrev pub spliced : Option Path → (Path → Option Entry) → Option Entry → Option Entry
spliced (Some rest) below here = below rest
spliced None below here = here

-- a directory on the way to another
abbrev pub OnTheWay : Forest → List ℕ → Path → Forest → Type 0
OnTheWay f n path d = (e : Forest) × (find f n ≡ Some (Dir e)) × (dir_at e path ≡ Some d)

pub on_the_way : (f : Forest) (n : List ℕ) (path : Path) (d : Forest) → dir_at f (n ∷ path) ≡ Some d → OnTheWay f n path d
on_the_way f n path d h = by (find f n) refl h
  where
    by : (o : Option Node) → find f n ≡ o → option_and_then as_dir (option_and_then (λ node. node_at node path) o) ≡ Some d → OnTheWay f n path d
    by None is h = absurd (cc)
    by (Some (File b)) is h = absurd (no_dir path h)
      where
        no_dir : (path : Path) → option_and_then as_dir (node_at (File b) path) ≡ Some d → ⊥
        no_dir [] h = cc
        no_dir (m ∷ path) h = cc
    by (Some Other) is h = absurd (no_dir path h)
      where
        no_dir : (path : Path) → option_and_then as_dir (node_at Other path) ≡ Some d → ⊥
        no_dir [] h = cc
        no_dir (m ∷ path) h = cc
    by (Some (Dir e)) is h = (e, is, h)

pub tree-changed : (g : Forest → Forest) (f : Forest) (path : Path) (d : Forest) (q : Path) → dir_at f path ≡ Some d
    → tree_of (changed g f path) q ≡ spliced (rest_below path q) (tree_of (g d)) (tree_of f q)
tree-changed g f [] d q is = let same : f ≡ d = cc in ap (λ (h : Forest). tree_of (g h) q) same
tree-changed g f (n ∷ path) d [] is = refl
tree-changed g f (n ∷ path) d (m ∷ q) is =
    let way = on_the_way f n path d is in
    by way.0 way.1 (tree-changed g way.0 path d q way.2) (bytes_eq n m) refl
  where
    by : (e : Forest) → find f n ≡ Some (Dir e) → tree_of (changed g e path) q ≡ spliced (rest_below path q) (tree_of (g d)) (tree_of e q)
        → (t : Bool) → bytes_eq n m ≡ t → tree_of (changed g f (n ∷ path)) (m ∷ q)
        ≡ spliced (cond t (rest_below path q) None) (tree_of (g d)) (tree_of f (m ∷ q))
    by e found below true at =
        ap (λ o. option_map entry_of (option_and_then (λ node. node_at node q) o)) (find-changed g f n path e m found ∙ cond-true _ _ _ at)
        ∙ below
        ∙ ap (λ o. spliced (rest_below path q) (tree_of (g d)) (option_map entry_of (option_and_then (λ node. node_at node q) o))) (sym found
        ∙ ap (find f) (same_name n m at))
    by e found below false apart =
        ap (λ o. option_map entry_of (option_and_then (λ node. node_at node q) o)) (find-changed g f n path e m found ∙ cond-false _ _ _ apart)

pub tree-inserted : (leaf d : Forest) (x : Node) (q : Path) → first_node leaf ≡ Some x → find d (first_name leaf) ≡ None
    → tree_of (inserted leaf d) q ≡ spliced (rest_below (first_name leaf ∷ []) q) (entry_below x) (tree_of d q)
tree-inserted leaf d x [] is absent = refl
tree-inserted leaf d x (m ∷ q) is absent = ap (λ o. option_map entry_of (option_and_then (λ node. node_at node q) o)) (find-inserted leaf d x m is absent)
    ∙ by (bytes_eq (first_name leaf) m)
  where
    by : (t : Bool) → option_map entry_of (option_and_then (λ node. node_at node q) (cond t (Some x) (find d m)))
        ≡ spliced (cond t (Some q) None) (entry_below x) (tree_of d (m ∷ q))
    by true = refl
    by false = refl

pub tree-removed : (n : List ℕ) (d : Forest) (q : Path) → is_proper d ≡ true
    → tree_of (removed n d) q ≡ spliced (rest_below (n ∷ []) q) (λ _. None) (tree_of d q)
tree-removed n d [] proper = refl
tree-removed n d (m ∷ q) proper = ap (λ o. option_map entry_of (option_and_then (λ node. node_at node q) o)) (find-removed n d m proper) ∙ by (bytes_eq n m)
  where
    by : (t : Bool) → option_map entry_of (option_and_then (λ node. node_at node q) (cond t None (find d m)))
        ≡ spliced (cond t (Some q) None) (λ _. None) (tree_of d (m ∷ q))
    by true = refl
    by false = refl

-- an edit is seen at the file's own path alone
abbrev pub edited_below : (List ℕ → List ℕ) → Option Entry → Path → Option Entry → Option Entry
edited_below g was [] here = edited_by g was
edited_below g was (n ∷ rest) here = here

pub tree-rewritten : (g : List ℕ → List ℕ) (n : List ℕ) (d : Forest) (q : Path)
    → tree_of (rewritten g n d) q ≡ spliced (rest_below (n ∷ []) q) (λ rest. edited_below g (tree_of d (n ∷ [])) rest (tree_of d q)) (tree_of d q)
tree-rewritten g n d [] = refl
tree-rewritten g n d (m ∷ q) = ap (λ o. option_map entry_of (option_and_then (λ node. node_at node q) o)) (find-rewritten g n d m) ∙ by (bytes_eq n m) refl
  where
    at : (q : Path) (o : Option Node) → option_map entry_of (option_and_then (λ node. node_at node q) (option_map (node_edited g) o))
        ≡ edited_below g (option_map entry_of (option_and_then (λ node. node_at node []) o)) q
        (option_map entry_of (option_and_then (λ node. node_at node q) o))
    at [] None = refl
    at [] (Some (File b)) = refl
    at [] (Some (Dir e)) = refl
    at [] (Some Other) = refl
    at (k ∷ q) None = refl
    at (k ∷ q) (Some (File b)) = refl
    at (k ∷ q) (Some (Dir e)) = refl
    at (k ∷ q) (Some Other) = refl

    by : (t : Bool) → bytes_eq n m ≡ t → option_map entry_of (option_and_then (λ node. node_at node q)
        (cond t (option_map (node_edited g) (find d m)) (find d m)))
        ≡ spliced (cond t (Some q) None) (λ rest. edited_below g (tree_of d (n ∷ [])) rest (tree_of d (m ∷ q))) (tree_of d (m ∷ q))
    by true same = at q (find d m) ∙ ap (λ (l : List ℕ). edited_below g (tree_of d (l ∷ [])) q (tree_of d (m ∷ q))) (sym (same_name n m same))
    by false apart = refl
