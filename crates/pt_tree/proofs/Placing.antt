-- What stands at each path after a change at one path.
use Rattle.std.proofs.Common.{◌≡◌, ℕ, List, [], ◌∷◌, ◌++◌, true, false, refl, sym, ◌∙◌, ap}
use Rattle.std.specs.Prelude.{Bool, cond, ◌&&◌, Option, None, Some}
use Rattle.std.specs.Option.{option_map, option_and_then}
use Rattle.std.specs.Str.{bytes_eq}
use Rattle.std.proofs.lemmas.Bool.{cond-true, cond-false}
use Rattle.pt_tree.specs.Path.{Path, same_path, rest_below, parent, last_name}
use Rattle.pt_tree.specs.Forest.{
  Forest,
  Node,
  File,
  Dir,
  Other,
  find,
  node_at,
  as_dir,
  dir_at,
  is_proper,
  first_name,
  first_node,
  inserted,
  removed,
  rewritten,
  changed,
}
use Rattle.pt_tree.specs.Tree.{Entry, Folder, entry_of, tree_of, put, added, without, without_at, CanMake}
use Rattle.pt_tree.proofs.Names.{same_name, name_itself, bytes_eq-sym}
use Rattle.pt_tree.specs.TreeLaws.{entry_below}
use Rattle.pt_tree.proofs.Trees.{spliced, on_the_way, tree-changed, tree-inserted, tree-removed, tree-rewritten, edited_below}

-- the rest of q below p is nothing: they are one path
abbrev pub is_here : Option Path → Bool
is_here None = false
is_here (Some []) = true
is_here (Some (n ∷ rest)) = false

pub same_path-rest : (p q : Path) → same_path q p ≡ is_here (rest_below p q)
same_path-rest [] [] = refl
same_path-rest [] (m ∷ q) = refl
same_path-rest (n ∷ p) [] = refl
same_path-rest (n ∷ p) (m ∷ q) = by (bytes_eq n m) refl (same_path-rest p q)
  where
    by : (t : Bool) → bytes_eq n m ≡ t → same_path q p ≡ is_here (rest_below p q) → (bytes_eq m n && same_path q p) ≡ is_here (cond t (rest_below p q) None)
    by true same later = ap (λ b. b && same_path q p) (bytes_eq-sym n m true same) ∙ later
    by false apart later = ap (λ b. b && same_path q p) (bytes_eq-sym n m false apart)

-- what stands below a directory stands at the whole path
pub below_dir : (f : Forest) (p : Path) (d : Forest) (q r : Path) → dir_at f p ≡ Some d → rest_below p q ≡ Some r → tree_of d r ≡ tree_of f q
below_dir f [] d q r is rest =
    let same : f ≡ d = cc in
    let all : q ≡ r = cc in
    ap (λ (h : Forest). tree_of h r) (sym same) ∙ ap (tree_of f) (sym all)
below_dir f (n ∷ p) d [] r is rest = absurd (cc)
below_dir f (n ∷ p) d (m ∷ q) r is rest = by (λ e below rest. below_dir e p d q r below rest) (on_the_way f n p d is) (bytes_eq n m) refl rest
  where
    by : ((e : Forest) → dir_at e p ≡ Some d → rest_below p q ≡ Some r → tree_of d r ≡ tree_of e q)
        → (e : Forest) × (find f n ≡ Some (Dir e)) × (dir_at e p ≡ Some d) → (t : Bool) → bytes_eq n m ≡ t → cond t (rest_below p q) None ≡ Some r
        → tree_of d r ≡ tree_of f (m ∷ q)
    by later way true same rest =
        later way.0 way.2 rest
        ∙ ap (λ o. option_map entry_of (option_and_then (λ node. node_at node q) o)) (sym way.1 ∙ ap (find f) (same_name n m same))
    by later way false apart rest = absurd (cc)

-- a change at the last name of a path is a change at the path
at_path : (E : Path → Option Entry → Option Entry) (path : Path) (n : List ℕ) (q : Path) (D : Path → Option Entry) (here : Option Entry)
    → ((r : Path) → rest_below (parent (n ∷ path)) q ≡ Some r → D r ≡ here)
    → spliced (rest_below (parent (n ∷ path)) q) (λ r. spliced (rest_below (last_name (n ∷ path) ∷ []) r) (λ rest. E rest (D r)) (D r)) here
    ≡ spliced (rest_below (n ∷ path) q) (λ rest. E rest here) here
at_path E [] n q D here same = ap (λ o. spliced (rest_below (n ∷ []) q) (λ rest. E rest o) o) (same q refl)
at_path E (m ∷ path) n [] D here same = refl
at_path E (m ∷ path) n (k ∷ q) D here same = by (at_path E path m q D here) (bytes_eq n k) same
  where
    by : (((r : Path) → rest_below (parent (m ∷ path)) q ≡ Some r → D r ≡ here)
        → spliced (rest_below (parent (m ∷ path)) q) (λ r. spliced (rest_below (last_name (m ∷ path) ∷ []) r) (λ rest. E rest (D r)) (D r)) here
        ≡ spliced (rest_below (m ∷ path) q) (λ rest. E rest here) here)
        → (t : Bool) → ((r : Path) → cond t (rest_below (parent (m ∷ path)) q) None ≡ Some r → D r ≡ here)
        → spliced (cond t (rest_below (parent (m ∷ path)) q) None) (λ r. spliced (rest_below (last_name (m ∷ path) ∷ []) r) (λ rest. E rest (D r)) (D r)) here
        ≡ spliced (cond t (rest_below (m ∷ path) q) None) (λ rest. E rest here) here
    by later true same = later same
    by later false same = refl

abbrev pub IsAtLast : (Path → Option Entry → Option Entry) → (Forest → Forest) → List ℕ → Forest → Type 0
IsAtLast E g n d = (r : Path) → tree_of (g d) r ≡ spliced (rest_below (n ∷ []) r) (λ rest. E rest (tree_of d r)) (tree_of d r)

pub tree-changed_at : (E : Path → Option Entry → Option Entry) (g : Forest → Forest) (f : Forest) (n : List ℕ) (path : Path) (d : Forest) (q : Path)
    → dir_at f (parent (n ∷ path)) ≡ Some d → IsAtLast E g (last_name (n ∷ path)) d
    → tree_of (changed g f (parent (n ∷ path))) q ≡ spliced (rest_below (n ∷ path) q) (λ rest. E rest (tree_of f q)) (tree_of f q)
tree-changed_at E g f n path d q is last =
    tree-changed g f (parent (n ∷ path)) d q is
    ∙ ap (λ (B : Path → Option Entry). spliced (rest_below (parent (n ∷ path)) q) B (tree_of f q)) (λ i r. last r i)
    ∙ at_path E path n q (tree_of d) (tree_of f q) (λ r rest. below_dir f (parent (n ∷ path)) d q r is rest)

-- a folder is a directory
abbrev pub HasDir : Forest → Path → Type 0
HasDir f p = (d : Forest) × (dir_at f p ≡ Some d)

pub dir-folder : (f : Forest) (p : Path) → tree_of f p ≡ Some Folder → HasDir f p
dir-folder f p h = by (node_at (Dir f) p) refl h
  where
    by : (o : Option Node) → node_at (Dir f) p ≡ o → option_map entry_of o ≡ Some Folder → HasDir f p
    by None is h = absurd (cc)
    by (Some (File b)) is h = absurd (cc)
    by (Some Other) is h = absurd (cc)
    by (Some (Dir d)) is h = (d, ap (option_and_then as_dir) is)

-- the last name is what a path has below its parent
pub rest_below-parent : (n : List ℕ) (path : Path) → rest_below (parent (n ∷ path)) (n ∷ path) ≡ Some (last_name (n ∷ path) ∷ [])
rest_below-parent n [] = refl
rest_below-parent n (m ∷ path) = cond-true (bytes_eq n n) _ None (name_itself n) ∙ rest_below-parent m path

find_none : (d : Forest) (n : List ℕ) → tree_of d (n ∷ []) ≡ None → find d n ≡ None
find_none d n h = by (find d n) h
  where
    by : (o : Option Node) → option_map entry_of (option_and_then (λ node. node_at node []) o) ≡ None → o ≡ None
    by None h = refl
    by (Some x) h = absurd (cc)

pub absent_last : (f : Forest) (n : List ℕ) (path : Path) (d : Forest) → dir_at f (parent (n ∷ path)) ≡ Some d → tree_of f (n ∷ path) ≡ None
    → find d (last_name (n ∷ path)) ≡ None
absent_last f n path d is absent = find_none d (last_name (n ∷ path)) (below_dir f (parent (n ∷ path)) d (n ∷ path) (last_name (n ∷ path) ∷ []) is
    (rest_below-parent n path) ∙ absent)

-- nothing is below what is absent
absent_node : (x : Node) (p q r : Path) → entry_below x p ≡ None → rest_below p q ≡ Some r → entry_below x q ≡ None
absent_node x [] q r absent rest = absurd (cc)
absent_node x (n ∷ p) [] r absent rest = absurd (cc)
absent_node (File b) (n ∷ p) (m ∷ q) r absent rest = refl
absent_node Other (n ∷ p) (m ∷ q) r absent rest = refl
absent_node (Dir e) (n ∷ p) (m ∷ q) r absent rest = by (at (λ x absent rest. absent_node x p q r absent rest) (find e n) absent) (bytes_eq n m) refl rest
  where
    at : ((x : Node) → entry_below x p ≡ None → rest_below p q ≡ Some r → entry_below x q ≡ None) → (o : Option Node)
        → option_map entry_of (option_and_then (λ node. node_at node p) o) ≡ None → rest_below p q ≡ Some r
        → option_map entry_of (option_and_then (λ node. node_at node q) o) ≡ None
    at later None absent rest = refl
    at later (Some x) absent rest = later x absent rest

    by : (rest_below p q ≡ Some r → option_map entry_of (option_and_then (λ node. node_at node q) (find e n)) ≡ None) → (t : Bool) → bytes_eq n m ≡ t
        → cond t (rest_below p q) None ≡ Some r → entry_below (Dir e) (m ∷ q) ≡ None
    by later true same rest = ap (λ (l : List ℕ). option_map entry_of (option_and_then (λ node. node_at node q) (find e l))) (sym (same_name n m same))
        ∙ later rest
    by later false apart rest = absurd (cc)

pub absent_below : (f : Forest) (p q r : Path) → tree_of f p ≡ None → rest_below p q ≡ Some r → tree_of f q ≡ None
absent_below f p q r = absent_node (Dir f) p q r

-- has nothing inside
abbrev pub IsLeaf : Node → Type 0
IsLeaf x = (m : List ℕ) (rest : Path) → entry_below x (m ∷ rest) ≡ None

-- an entry put into its directory is put at its path
pub tree-planted : (leaf f : Forest) (path : Path) (x : Node) → CanMake (tree_of f) path → first_name leaf ≡ last_name path → first_node leaf ≡ Some x
    → IsLeaf x
    → tree_of (changed (inserted leaf) f (parent path)) ≡ put (tree_of f) path (entry_of x)
tree-planted leaf f [] x can name is single = absurd (by can.absent)
  where
    by : Some Folder ≡ None → ⊥
    by h = cc
tree-planted leaf f (n ∷ path) x can name is single = λ i q. (at q ∙ placed q (rest_below (n ∷ path) q) refl) i
  where
    d : HasDir f (parent (n ∷ path))
    d = dir-folder f (parent (n ∷ path)) can.in_folder

    at : (q : Path) → tree_of (changed (inserted leaf) f (parent (n ∷ path))) q ≡ spliced (rest_below (n ∷ path) q) (entry_below x) (tree_of f q)
    at q = tree-changed_at (λ rest _. entry_below x rest) (inserted leaf) f n path d.0 q d.1
        (λ r. tree-inserted leaf d.0 x r is (ap (find d.0) name ∙ absent_last f n path d.0 d.1 can.absent)
        ∙ ap (λ (l : List ℕ). spliced (rest_below (l ∷ []) r) (entry_below x) (tree_of d.0 r)) name)

    placed : (q : Path) (o : Option Path) → rest_below (n ∷ path) q ≡ o → spliced o (entry_below x) (tree_of f q) ≡ put (tree_of f) (n ∷ path) (entry_of x) q
    placed q None is = sym (cond-false _ _ _ (same_path-rest (n ∷ path) q ∙ ap is_here is))
    placed q (Some []) is = sym (cond-true _ _ _ (same_path-rest (n ∷ path) q ∙ ap is_here is))
    placed q (Some (m ∷ rest)) is = single m rest ∙ sym (absent_below f (n ∷ path) q (m ∷ rest) can.absent is)
        ∙ sym (cond-false _ _ _ (same_path-rest (n ∷ path) q ∙ ap is_here is))

-- an entry taken out of its directory is gone from its path, with all below
pub tree-removed_at : (f : Forest) (n : List ℕ) (path : Path) (d : Forest) → dir_at f (parent (n ∷ path)) ≡ Some d → is_proper d ≡ true
    → tree_of (changed (removed (last_name (n ∷ path))) f (parent (n ∷ path))) ≡ without (tree_of f) (n ∷ path)
tree-removed_at f n path d is proper = λ i q. (tree-changed_at (λ _ _. None) (removed (last_name (n ∷ path))) f n path d q is
    (λ r. tree-removed (last_name (n ∷ path)) d r proper) ∙ by q (rest_below (n ∷ path) q)) i
  where
    by : (q : Path) (o : Option Path) → spliced o (λ _. None) (tree_of f q) ≡ without_at o (tree_of f q)
    by q None = refl
    by q (Some rest) = refl

-- a file edited in its directory is edited at its path
pub tree-edited_at : (piece : List ℕ) (f : Forest) (n : List ℕ) (path : Path) (d : Forest) → dir_at f (parent (n ∷ path)) ≡ Some d
    → tree_of (changed (rewritten (λ bytes. bytes ++ piece) (last_name (n ∷ path))) f (parent (n ∷ path))) ≡ added (tree_of f) (n ∷ path) piece
tree-edited_at piece f n path d is = λ i q. (tree-changed_at (edited_below g (tree_of f (n ∷ path))) (rewritten g (last_name (n ∷ path))) f n path d q is last
    ∙ by q (rest_below (n ∷ path) q) refl) i
  where
    g : List ℕ → List ℕ
    g = λ bytes. bytes ++ piece

    last : IsAtLast (λ rest here. edited_below g (tree_of f (n ∷ path)) rest here) (rewritten g (last_name (n ∷ path))) (last_name (n ∷ path)) d
    last r = tree-rewritten g (last_name (n ∷ path)) d r ∙ ap (λ o. spliced (rest_below (last_name (n ∷ path) ∷ []) r)
        (λ rest. edited_below g o rest (tree_of d r)) (tree_of d r)) (below_dir f (parent (n ∷ path)) d (n ∷ path) (last_name (n ∷ path) ∷ []) is
        (rest_below-parent n path))

    by : (q : Path) (o : Option Path) → rest_below (n ∷ path) q ≡ o → spliced o (λ rest. edited_below g (tree_of f (n ∷ path)) rest (tree_of f q)) (tree_of f q)
        ≡ added (tree_of f) (n ∷ path) piece q
    by q None is = sym (cond-false _ _ _ (same_path-rest (n ∷ path) q ∙ ap is_here is))
    by q (Some []) is = sym (cond-true _ _ _ (same_path-rest (n ∷ path) q ∙ ap is_here is))
    by q (Some (m ∷ rest)) is = sym (cond-false _ _ _ (same_path-rest (n ∷ path) q ∙ ap is_here is))
