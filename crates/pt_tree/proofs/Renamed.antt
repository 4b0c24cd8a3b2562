-- An entry taken out at one path and put in at another.
use Rattle.std.proofs.Common.{◌≡◌, ℕ, List, [], ◌∷◌, ◌++◌, true, false, refl, sym, ◌∙◌, ap}
use Rattle.std.specs.Prelude.{Bool, cond, Option, None, Some, IsSome}
use Rattle.std.specs.Option.{option_map, option_and_then}
use Rattle.std.specs.Str.{bytes_eq}
use Rattle.std.proofs.lemmas.Bool.{and_from}
use Rattle.pt_tree.specs.Name.{is_name}
use Rattle.pt_tree.specs.Path.{Path, rest_below, parent, last_name, split_path}
use Rattle.pt_tree.proofs.Paths.{split_parts}
use Rattle.pt_tree.specs.Forest.{
  Forest,
  none,
  file,
  other,
  dir,
  Node,
  File,
  Dir,
  Other,
  find,
  node_at,
  as_dir,
  dir_at,
  is_proper,
  first_name,
  first_node,
  first_alone,
  inserted,
  removed,
  changed,
  picked,
  picked_at,
  named,
}
use Rattle.pt_tree.specs.Tree.{Tree, entry_of, tree_of, moved, moved_at, without, without_at, CanMove}
use Rattle.pt_tree.proofs.Finding.{proper_file, proper_other, proper_dir}
use Rattle.pt_tree.specs.TreeLaws.{entry_below}
use Rattle.pt_tree.proofs.Trees.{spliced, on_the_way, tree-inserted}
use Rattle.pt_tree.proofs.Placing.{HasDir, dir-folder, absent_last, tree-changed_at}
use Rattle.pt_tree.proofs.Proper.{proper-changed, proper-inserted, proper-picked}
use Rattle.pt_tree.proofs.AtPaths.{proper_dir_at, proper_taken, stands_in, tree_taken}

-- what is picked is what is found
picked_first : (n : List ℕ) (f : Forest) → first_node (picked n f) ≡ find f n
picked_first n none = refl
picked_first n (file m b f) = by (bytes_eq m n) (picked_first n f)
  where
    by : (t : Bool) → first_node (picked n f) ≡ find f n → first_node (cond t (file m b none) (picked n f)) ≡ cond t (Some (File b)) (find f n)
    by true later = refl
    by false later = later
picked_first n (other m f) = by (bytes_eq m n) (picked_first n f)
  where
    by : (t : Bool) → first_node (picked n f) ≡ find f n → first_node (cond t (other m none) (picked n f)) ≡ cond t (Some Other) (find f n)
    by true later = refl
    by false later = later
picked_first n (dir m d f) = by (bytes_eq m n) (picked_first n f)
  where
    by : (t : Bool) → first_node (picked n f) ≡ find f n → first_node (cond t (dir m d none) (picked n f)) ≡ cond t (Some (Dir d)) (find f n)
    by true later = refl
    by false later = later

-- picked in the directory at a path
picked_in : (f : Forest) (p : Path) (d : Forest) (n : List ℕ) → is_proper f ≡ true → dir_at f p ≡ Some d → picked_at f p n ≡ picked n d
picked_in f [] d n proper is = let same : f ≡ d = cc in ap (picked n) same
picked_in none (k ∷ p) d n proper is = absurd (cc)
picked_in (file m b f) (k ∷ p) d n proper is = picked_in f (k ∷ p) d n (proper_file m b f proper).2 (by (bytes_eq m k) is)
  where
    no_dir : (p : Path) → option_and_then as_dir (node_at (File b) p) ≡ Some d → ⊥
    no_dir [] h = cc
    no_dir (x ∷ p) h = cc

    by : (t : Bool) → option_and_then as_dir (option_and_then (λ node. node_at node p) (cond t (Some (File b)) (find f k))) ≡ Some d → dir_at f (k ∷ p) ≡ Some d
    by true h = absurd (no_dir p h)
    by false h = h
picked_in (other m f) (k ∷ p) d n proper is = picked_in f (k ∷ p) d n (proper_other m f proper).2 (by (bytes_eq m k) is)
  where
    no_dir : (p : Path) → option_and_then as_dir (node_at Other p) ≡ Some d → ⊥
    no_dir [] h = cc
    no_dir (x ∷ p) h = cc

    by : (t : Bool) → option_and_then as_dir (option_and_then (λ node. node_at node p) (cond t (Some Other) (find f k))) ≡ Some d → dir_at f (k ∷ p) ≡ Some d
    by true h = absurd (no_dir p h)
    by false h = h
picked_in (dir m e f) (k ∷ p) d n proper is =
    let parts = proper_dir m e f proper in
    by (λ h. picked_in e p d n parts.3 h) (λ h. picked_in f (k ∷ p) d n parts.2 h) (bytes_eq m k) is
  where
    by : (dir_at e p ≡ Some d → picked_at e p n ≡ picked n d) → (dir_at f (k ∷ p) ≡ Some d → picked_at f (k ∷ p) n ≡ picked n d) → (t : Bool)
        → option_and_then as_dir (option_and_then (λ node. node_at node p) (cond t (Some (Dir e)) (find f k))) ≡ Some d
        → cond t (picked_at e p n) (picked_at f (k ∷ p) n) ≡ picked n d
    by inside later true h = inside h
    by inside later false h = later h

pub node-append : (x : Node) (p q : Path) (y : Node) → node_at x p ≡ Some y → node_at x (p ++ q) ≡ node_at y q
node-append x [] q y is = let same : x ≡ y = cc in ap (λ (z : Node). node_at z q) same
node-append (File b) (n ∷ p) q y is = absurd (cc)
node-append Other (n ∷ p) q y is = absurd (cc)
node-append (Dir f) (n ∷ p) q y is = by (λ z h. node-append z p q y h) (find f n) is
  where
    by : ((z : Node) → node_at z p ≡ Some y → node_at z (p ++ q) ≡ node_at y q) → (o : Option Node) → option_and_then (λ node. node_at node p) o ≡ Some y
        → option_and_then (λ node. node_at node (p ++ q)) o ≡ node_at y q
    by below None h = absurd (cc)
    by below (Some z) h = below z h

-- the last name leads from the parent to what stands
node-last : (f : Forest) (n : List ℕ) (p : Path) (d : Forest) → dir_at f (parent (n ∷ p)) ≡ Some d → node_at (Dir f) (n ∷ p) ≡ find d (last_name (n ∷ p))
node-last f n [] d is = by (find f n) ∙ (let same : f ≡ d = cc in ap (λ (e : Forest). find e n) same)
  where
    by : (o : Option Node) → option_and_then (λ node. node_at node []) o ≡ o
    by None = refl
    by (Some x) = refl
node-last f n (m ∷ p) d is = let way = on_the_way f n (parent (m ∷ p)) d is in ap (λ o. option_and_then (λ node. node_at node (m ∷ p)) o) way.1
    ∙ node-last way.0 m p d way.2

-- something stands there
abbrev HasNode : Forest → Path → Type 0
HasNode f p = (x : Node) × (node_at (Dir f) p ≡ Some x)

has_node : (f : Forest) (p : Path) → IsSome (tree_of f p) → HasNode f p
has_node f p h = by (node_at (Dir f) p) refl h
  where
    by : (o : Option Node) → node_at (Dir f) p ≡ o → IsSome (option_map entry_of o) → HasNode f p
    by None at h = absurd (cc)
    by (Some x) at h = (x, at)

-- nothing on the way to what isn't below p is below p
parent_apart : (p : Path) (n : List ℕ) (q : Path) → rest_below p (n ∷ q) ≡ None → rest_below p (parent (n ∷ q)) ≡ None
parent_apart [] n q h = absurd (cc)
parent_apart (x ∷ p) n [] h = refl
parent_apart (x ∷ p) n (m ∷ q) h = by (bytes_eq x n) (parent_apart p m q) h
  where
    by : (t : Bool) → (rest_below p (m ∷ q) ≡ None → rest_below p (parent (m ∷ q)) ≡ None) → cond t (rest_below p (m ∷ q)) None ≡ None
        → cond t (rest_below p (parent (m ∷ q))) None ≡ None
    by true later h = later h
    by false later h = refl

first_named : (n : List ℕ) (f : Forest) (x : Node) → first_node f ≡ Some x → (first_name (named n f) ≡ n) × (first_node (named n f) ≡ Some x)
first_named n none x is = absurd (cc)
first_named n (file m b f) x is = (refl, is)
first_named n (other m f) x is = (refl, is)
first_named n (dir m d f) x is = (refl, is)

proper_named : (n : List ℕ) (f : Forest) → is_name n ≡ true → is_proper f ≡ true → is_proper (first_alone (named n f)) ≡ true
proper_named n none name proper = refl
proper_named n (file m b f) name proper = and_from _ _ name refl
proper_named n (other m f) name proper = and_from _ _ name refl
proper_named n (dir m d f) name proper = and_from _ _ name (and_from _ _ (proper_dir m d f proper).3 refl)

-- ---- the whole move, of f at x ∷ from to y ∷ to

module _ (f : Forest) (x : List ℕ) (from : Path) (y : List ℕ) (to : Path) (proper : is_proper f ≡ true) (can : CanMove (tree_of f) (x ∷ from) (y ∷ to)) where
  abbrev left : Forest
  left = changed (removed (last_name (x ∷ from))) f (parent (x ∷ from))

  abbrev leaf : Forest
  leaf = named (last_name (y ∷ to)) (picked_at f (parent (x ∷ from)) (last_name (x ∷ from)))

  source : HasDir f (parent (x ∷ from))
  source = stands_in f x from can.stands

  held : HasNode f (x ∷ from)
  held = has_node f (x ∷ from) can.stands

  picked_is : first_node (picked_at f (parent (x ∷ from)) (last_name (x ∷ from))) ≡ Some held.0
  picked_is =
      ap first_node (picked_in f (parent (x ∷ from)) source.0 (last_name (x ∷ from)) proper source.1)
      ∙ picked_first (last_name (x ∷ from)) source.0 ∙ sym (node-last f x from source.0 source.1) ∙ held.1

  leaf_is : (first_name leaf ≡ last_name (y ∷ to)) × (first_node leaf ≡ Some held.0)
  leaf_is = first_named (last_name (y ∷ to)) _ held.0 picked_is

  tree_left : tree_of left ≡ without (tree_of f) (x ∷ from)
  tree_left = tree_taken f x from proper can.stands

  not_below : (q : Path) → rest_below (x ∷ from) q ≡ None → tree_of left q ≡ tree_of f q
  not_below q apart = ap (λ (t : Tree). t q) tree_left ∙ ap (λ o. without_at o (tree_of f q)) apart

  target : HasDir left (parent (y ∷ to))
  target = dir-folder left (parent (y ∷ to)) (not_below (parent (y ∷ to)) (parent_apart (x ∷ from) y to can.apart) ∙ can.target.in_folder)

  absent : find target.0 (last_name (y ∷ to)) ≡ None
  absent = absent_last left y to target.0 target.1 (not_below (y ∷ to) can.apart ∙ can.target.absent)

  pub tree_renamed : tree_of (changed (inserted leaf) left (parent (y ∷ to))) ≡ moved (tree_of f) (x ∷ from) (y ∷ to)
  tree_renamed = λ i q. (at q ∙ ap (λ (t : Tree). spliced (rest_below (y ∷ to) q) (entry_below held.0) (t q)) tree_left
      ∙ by q (rest_below (y ∷ to) q) (rest_below (x ∷ from) q)) i
    where
      at : (q : Path) → tree_of (changed (inserted leaf) left (parent (y ∷ to))) q ≡ spliced (rest_below (y ∷ to) q) (entry_below held.0) (tree_of left q)
      at q = tree-changed_at (λ rest _. entry_below held.0 rest) (inserted leaf) left y to target.0 q target.1
          (λ r. tree-inserted leaf target.0 held.0 r leaf_is.1 (ap (find target.0) leaf_is.0 ∙ absent)
          ∙ ap (λ (l : List ℕ). spliced (rest_below (l ∷ []) r) (entry_below held.0) (tree_of target.0 r)) leaf_is.0)

      by : (q : Path) (o w : Option Path) → spliced o (entry_below held.0) (without_at w (tree_of f q)) ≡ moved_at (tree_of f) (x ∷ from) o w q
      by q (Some rest) w = ap (option_map entry_of) (sym (node-append (Dir f) (x ∷ from) rest held.0 held.1))
      by q None (Some rest) = refl
      by q None None = refl

  pub proper_renamed : is_name (last_name (y ∷ to)) ≡ true → is_proper (changed (inserted leaf) left (parent (y ∷ to))) ≡ true
  proper_renamed name =
      let left_proper = proper_taken f (last_name (x ∷ from)) (parent (x ∷ from)) proper in
      let picked_proper = ap is_proper (picked_in f (parent (x ∷ from)) source.0 (last_name (x ∷ from)) proper source.1)
      ∙ proper-picked (last_name (x ∷ from)) source.0 (proper_dir_at f (parent (x ∷ from)) source.0 proper source.1) in
      proper-changed (inserted leaf) left (parent (y ∷ to)) (λ d is proper_d.
      let same : target.0 ≡ d = cc (target.1) in
      proper-inserted leaf d held.0 leaf_is.1 (proper_named (last_name (y ∷ to)) _ name picked_proper) (ap (find d) leaf_is.0
      ∙ ap (λ (e : Forest). find e (last_name (y ∷ to))) (sym same) ∙ absent) proper_d) left_proper

-- the move, for paths that are split
pub rename_at : (f : Forest) (from to from_at to_at : Path) (from_name to_name : List ℕ) → Some (from_at, from_name) ≡ split_path from
    → Some (to_at, to_name) ≡ split_path to
    → is_proper f ≡ true → CanMove (tree_of f) from to → is_name to_name ≡ true
    → (tree_of (changed (inserted (named to_name (picked_at f from_at from_name))) (changed (removed from_name) f from_at) to_at) ≡ moved (tree_of f) from to)
    × (is_proper (changed (inserted (named to_name (picked_at f from_at from_name))) (changed (removed from_name) f from_at) to_at) ≡ true)
rename_at f [] to from_at to_at from_name to_name is_from is_to proper can name = absurd (cc)
rename_at f (x ∷ from) [] from_at to_at from_name to_name is_from is_to proper can name = absurd (cc)
rename_at f (x ∷ from) (y ∷ to) from_at to_at from_name to_name is_from is_to proper can name =
    let a = split_parts (x ∷ from) from_at from_name is_from in
    let b = split_parts (y ∷ to) to_at to_name is_to in
    let same : changed (inserted (named to_name (picked_at f from_at from_name))) (changed (removed from_name) f from_at) to_at
    ≡ changed (inserted (named (last_name (y ∷ to)) (picked_at f (parent (x ∷ from)) (last_name (x ∷ from)))))
    (changed (removed (last_name (x ∷ from))) f (parent (x ∷ from))) (parent (y ∷ to)) =
    λ i. changed (inserted (named (b.1 i) (picked_at f (a.0 i) (a.1 i)))) (changed (removed (a.1 i)) f (a.0 i)) (b.0 i) in
    (ap tree_of same ∙ tree_renamed f x from y to proper can, ap is_proper same ∙ proper_renamed f x from y to proper can (ap is_name (sym b.1) ∙ name))
