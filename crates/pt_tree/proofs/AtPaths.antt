-- Taking away, editing and renaming at whole paths.
use Rattle.std.proofs.Common.{◌≡◌, ℕ, List, [], ◌∷◌, ◌++◌, true, false, refl, sym, ◌∙◌, ap, append-nil, subst}
use Rattle.std.specs.Prelude.{Bool, cond, Option, None, Some, IsSome, is_some}
use Rattle.std.specs.Option.{option_map, option_and_then, option_copied}
use Rattle.std.specs.Cmp.Lexicographic.{pointwise_decides}
use Rattle.std.proofs.lemmas.Slice.Eq.{bytes_eq-Decides}
use denote.Ref.{Bor}
use Rattle.pt_tree.specs.Path.{Path, IsBelowTop, same_path, parent, last_name, split_path}
use Rattle.pt_tree.proofs.Paths.{split_parts}
use Rattle.pt_tree.specs.Forest.{Forest, Node, File, Dir, Other, node_at, as_dir, as_file, dir_at, file_at, is_proper, removed, rewritten, changed}
use Rattle.pt_tree.specs.Tree.{Entry, Bytes, Folder, Special, Tree, entry_of, tree_of, bytes_of, edited_by, added, without}
use Rattle.pt_tree.specs.TreeLaws.{in_folder}
use Rattle.pt_tree.proofs.Placing.{HasDir, dir-folder, tree-removed_at, tree-edited_at}
use Rattle.pt_tree.proofs.Proper.{proper-changed, proper-removed, proper-rewritten, proper_at}

-- a path is its parent and its last name
pub parent-last : (n : List ℕ) (p : Path) → parent (n ∷ p) ++ last_name (n ∷ p) ∷ [] ≡ n ∷ p
parent-last n [] = refl
parent-last n (m ∷ p) = ap (λ (q : Path). n ∷ q) (parent-last m p)

-- what stands, stands in a directory
pub stands_in : (f : Forest) (n : List ℕ) (p : Path) → IsSome (tree_of f (n ∷ p)) → HasDir f (parent (n ∷ p))
stands_in f n p h = dir-folder f (parent (n ∷ p)) (in_folder (Dir f) (parent (n ∷ p)) (last_name (n ∷ p))
    (subst (λ q. IsSome (tree_of f q)) (sym (parent-last n p)) h))

pub proper_dir_at : (f : Forest) (p : Path) (d : Forest) → is_proper f ≡ true → dir_at f p ≡ Some d → is_proper d ≡ true
proper_dir_at f p d proper is = by (node_at (Dir f) p) refl is
  where
    by : (o : Option Node) → node_at (Dir f) p ≡ o → option_and_then as_dir o ≡ Some d → is_proper d ≡ true
    by None at is = absurd (cc)
    by (Some (File b)) at is = absurd (cc)
    by (Some Other) at is = absurd (cc)
    by (Some (Dir e)) at is = let same : e ≡ d = cc in ap is_proper (sym same) ∙ proper_at (Dir f) p (Dir e) proper at

-- taking away
pub tree_taken : (f : Forest) (n : List ℕ) (p : Path) → is_proper f ≡ true → IsSome (tree_of f (n ∷ p))
    → tree_of (changed (removed (last_name (n ∷ p))) f (parent (n ∷ p))) ≡ without (tree_of f) (n ∷ p)
tree_taken f n p proper stands = let d = stands_in f n p stands in tree-removed_at f n p d.0 d.1 (proper_dir_at f (parent (n ∷ p)) d.0 proper d.1)

pub proper_taken : (f : Forest) (name : List ℕ) (dir : Path) → is_proper f ≡ true → is_proper (changed (removed name) f dir) ≡ true
proper_taken f name at proper = proper-changed (removed name) f at (λ d _ p. proper-removed name d p) proper

-- adding to a file
pub tree_appended : (f : Forest) (n : List ℕ) (p : Path) (piece : List ℕ) → IsSome (tree_of f (n ∷ p))
    → tree_of (changed (rewritten (λ bytes. bytes ++ piece) (last_name (n ∷ p))) f (parent (n ∷ p))) ≡ added (tree_of f) (n ∷ p) piece
tree_appended f n p piece stands = let d = stands_in f n p stands in tree-edited_at piece f n p d.0 d.1

pub proper_appended : (f : Forest) (g : List ℕ → List ℕ) (name : List ℕ) (dir : Path) → is_proper f ≡ true → is_proper (changed (rewritten g name) f dir) ≡ true
proper_appended f g name at proper = proper-changed (rewritten g name) f at (λ d _ p. proper-rewritten g name d p) proper

-- the file at a path, seen in the tree
pub bytes_at : (f : Forest) (p : Path) → bytes_of (tree_of f p) ≡ file_at f p
bytes_at f p = by (node_at (Dir f) p)
  where
    by : (o : Option Node) → bytes_of (option_map entry_of o) ≡ option_and_then as_file o
    by None = refl
    by (Some (File b)) = refl
    by (Some (Dir d)) = refl
    by (Some Other) = refl

pub same_from : (q p : Path) → same_path q p ≡ true → q ≡ p
same_from q p = (pointwise_decides bytes_eq-Decides q p).0

pub path_itself : (p : Path) → same_path p p ≡ true
path_itself p = (pointwise_decides bytes_eq-Decides p p).1 refl

-- where no file is, nothing is added
pub added_nowhere : (t : Tree) (p : Path) (piece : List ℕ) → bytes_of (t p) ≡ None → t ≡ added t p piece
added_nowhere t p piece h = λ i q. at q (same_path q p) refl i
  where
    same : (o : Option Entry) → bytes_of o ≡ None → o ≡ edited_by (λ bytes. bytes ++ piece) o
    same None h = refl
    same (Some (Bytes b)) h = absurd (cc)
    same (Some Folder) h = refl
    same (Some Special) h = refl

    at : (q : Path) (s : Bool) → same_path q p ≡ s → t q ≡ cond s (edited_by (λ bytes. bytes ++ piece) (t p)) (t q)
    at q true is = ap t (same_from q p is) ∙ same (t p) h
    at q false is = refl

-- nothing added is no change
pub added-nil : (t : Tree) (p : Path) → added t p [] ≡ t
added-nil t p = λ i q. at q (same_path q p) refl i
  where
    same : (o : Option Entry) → edited_by (λ bytes. bytes ++ []) o ≡ o
    same None = refl
    same (Some (Bytes b)) = ap (λ bytes. Some (Bytes bytes)) (append-nil b)
    same (Some Folder) = refl
    same (Some Special) = refl

    at : (q : Path) (s : Bool) → same_path q p ≡ s → cond s (edited_by (λ bytes. bytes ++ []) (t p)) (t q) ≡ t q
    at q true is = same (t p) ∙ ap t (sym (same_from q p is))
    at q false is = refl

-- ---- the same, for a path that is split

pub take_at : (f : Forest) (path at : Path) (name : List ℕ) → Some (at, name) ≡ split_path path → is_proper f ≡ true → IsSome (tree_of f path) → IsBelowTop path
    → tree_of (changed (removed name) f at) ≡ without (tree_of f) path
take_at f [] at name is proper stands below = absurd below
take_at f (n ∷ p) at name is proper stands below =
    let parts = split_parts (n ∷ p) at name is in
    (λ i. tree_of (changed (removed (parts.1 i)) f (parts.0 i))) ∙ tree_taken f n p proper stands

pub append_at : (f : Forest) (path at : Path) (name piece : List ℕ) → Some (at, name) ≡ split_path path → IsSome (tree_of f path)
    → tree_of (changed (rewritten (λ bytes. bytes ++ piece) name) f at) ≡ added (tree_of f) path piece
append_at f [] at name piece is stands = absurd (cc)
append_at f (n ∷ p) at name piece is stands =
    let parts = split_parts (n ∷ p) at name is in
    (λ i. tree_of (changed (rewritten (λ bytes. bytes ++ piece) (parts.1 i)) f (parts.0 i))) ∙ tree_appended f n p piece stands

pub stands_from_file : (f : Forest) (p : Path) (r : Option (Bor (List ℕ))) → option_copied r ≡ file_at f p → is_some r ≡ true → IsSome (tree_of f p)
stands_from_file f p None is h = absurd (cc)
stands_from_file f p (Some b) is h = by (tree_of f p) (bytes_at f p ∙ sym is)
  where
    by : (o : Option Entry) → bytes_of o ≡ Some b.now → IsSome o
    by None h = absurd (cc)
    by (Some e) h = refl

pub no_file : (f : Forest) (p : Path) (r : Option (Bor (List ℕ))) → option_copied r ≡ file_at f p → is_some r ≡ false → bytes_of (tree_of f p) ≡ None
no_file f p None is h = bytes_at f p ∙ sym is
no_file f p (Some b) is h = absurd (cc)
