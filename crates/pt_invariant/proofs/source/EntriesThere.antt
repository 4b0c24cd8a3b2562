-- What an object's entries say stands in the source's tree.
use Rattle.std.proofs.Common.{◌≡◌, ℕ, zero, suc, Bool, true, false, List, [], ◌∷◌, ◌++◌, refl, ap, ◌∙◌, append_assoc, cond}
use Rattle.std.specs.Prelude.{Option, Some, slice_get}
use Rattle.std.specs.Option.{option_and_then}
use Rattle.std.specs.Str.{bytes_eq}
use Rattle.pt_tree.proofs.Finding.{proper_dir, proper_file, proper_other}
use Rattle.pt_tree.proofs.Names.{name_itself}
use Rattle.pt_tree.proofs.Proper.{behind}
use Rattle.pt_tree.specs.Forest.{Forest, Node, File, Dir, Other, none, file, other, dir, as_file, comes_before, file_at, find, is_proper, node_at}
use Rattle.pt_tree.specs.Path.{Path}
use Rattle.pt_walk.specs.Object.{Entry, entries_in, files, without_shorties}
use Rattle.pt_walk.specs.Site.{is_short}
use Rattle.pt_invariant.proofs.source.InPairtree.{some_same}

-- the entry stands in the directory, where its path leads from below the base
pub record IsThere (directory : Forest) (base : Path) (entry : Entry) : Type 0 where
  pub name : List ℕ
  pub rest : Path
  pub path : entry.0 ≡ base ++ name ∷ rest
  pub stands : option_and_then (λ node. node_at node rest) (find directory name) ≡ Some entry.1

-- all of these do
abbrev pub AreThere : Forest → Path → List Entry → Type 0
AreThere directory base [] = Unit {0}
AreThere directory base (entry ∷ others) = IsThere directory base entry × AreThere directory base others

both_there : (directory : Forest) (base : Path) (first later : List Entry) → AreThere directory base first → AreThere directory base later
    → AreThere directory base (first ++ later)
both_there directory base [] later a b = b
both_there directory base (entry ∷ first) later a b = (a.0, both_there directory base first later a.1 b)

-- what the first entry of a directory hides: nothing of the later ones
abbrev IsBefore : List ℕ → Node → Forest → Forest → Type 0
IsBefore n node after directory = (m : List ℕ) → find directory m ≡ cond (bytes_eq n m) (Some node) (find after m)

lifted : (n : List ℕ) (node : Node) (after directory : Forest) (base : Path) → IsBefore n node after directory → comes_before n after ≡ true
    → is_proper after ≡ true → (some : List Entry) → AreThere after base some → AreThere directory base some
lifted n node after directory base more comes proper [] there = tt
lifted n node after directory base more comes proper (entry ∷ some) there =
    let it = there.0 in
    let other = behind n after it.name it.rest entry.1 comes proper it.stands in (
      record {
        name = it.name;
        rest = it.rest;
        path = it.path;
        stands = ap (option_and_then (λ node. node_at node it.rest)) (more it.name ∙ ap (λ b. cond b (Some node) (find after it.name)) other) ∙ it.stands;
      },
      lifted n _ _ _ base more comes proper some there.1,
    )

-- what stands in a directory of it
inner : (n : List ℕ) (inside directory : Forest) (base : Path) → find directory n ≡ Some (Dir inside) → (some : List Entry)
    → AreThere inside (base ++ n ∷ []) some → AreThere directory base some
inner n inside directory base is [] there = tt
inner n inside directory base is (entry ∷ some) there =
    let it = there.0 in (
      record {
        name = n;
        rest = it.name ∷ it.rest;
        path = it.path ∙ append_assoc base (n ∷ []) (it.name ∷ it.rest);
        stands = ap (option_and_then (λ node. node_at node (it.name ∷ it.rest))) is ∙ it.stands;
      },
      inner n inside directory base is some there.1,
    )

first_found : (n : List ℕ) {node : Node} (o : Option Node) → cond (bytes_eq n n) (Some node) o ≡ Some node
first_found n {node} o = ap (λ b. cond b (Some node) o) (name_itself n)

pub all_there : (f : Forest) (base : Path) → is_proper f ≡ true → AreThere f base (entries_in base f)
all_there none base proper = tt
all_there (file n bytes after) base proper =
    let parts = proper_file n bytes after proper in (
      record { name = n; rest = []; path = refl; stands = ap (option_and_then (λ node. node_at node [])) (first_found n (find after n)) },
      lifted n _ _ _ base (λ m. refl) parts.1 parts.2 (entries_in base after) (all_there after base parts.2),
    )
all_there (other n after) base proper =
    let parts = proper_other n after proper in (
      record { name = n; rest = []; path = refl; stands = ap (option_and_then (λ node. node_at node [])) (first_found n (find after n)) },
      lifted n _ _ _ base (λ m. refl) parts.1 parts.2 (entries_in base after) (all_there after base parts.2),
    )
all_there (dir n inside after) base proper =
    let parts = proper_dir n inside after proper in (
      record { name = n; rest = []; path = refl; stands = ap (option_and_then (λ node. node_at node [])) (first_found n (find after n)) },
      both_there _ base _ _
          (inner n inside _ base (first_found n (find after n)) (entries_in (base ++ n ∷ []) inside) (all_there inside (base ++ n ∷ []) parts.3))
          (lifted n _ _ _ base (λ m. refl) parts.1 parts.2 (entries_in base after) (all_there after base parts.2)),
    )

-- what a site holds beside its shorties stands in the site
pub gathered_there : (f : Forest) (base : Path) → is_proper f ≡ true → AreThere f base (entries_in base (without_shorties f))
gathered_there none base proper = tt
gathered_there (file n bytes after) base proper =
    let parts = proper_file n bytes after proper in (
      record { name = n; rest = []; path = refl; stands = ap (option_and_then (λ node. node_at node [])) (first_found n (find after n)) },
      lifted n _ _ _ base (λ m. refl) parts.1 parts.2 (entries_in base (without_shorties after)) (gathered_there after base parts.2),
    )
gathered_there (other n after) base proper =
    let parts = proper_other n after proper in (
      record { name = n; rest = []; path = refl; stands = ap (option_and_then (λ node. node_at node [])) (first_found n (find after n)) },
      lifted n _ _ _ base (λ m. refl) parts.1 parts.2 (entries_in base (without_shorties after)) (gathered_there after base parts.2),
    )
gathered_there (dir n inside after) base proper =
    let parts = proper_dir n inside after proper in
    by (is_short n)
    (record { name = n; rest = []; path = refl; stands = ap (option_and_then (λ node. node_at node [])) (first_found n (find after n)) })
    (inner n inside _ base (first_found n (find after n)) (entries_in (base ++ n ∷ []) inside) (all_there inside (base ++ n ∷ []) parts.3))
    (lifted n _ _ _ base (λ m. refl) parts.1 parts.2 (entries_in base (without_shorties after)) (gathered_there after base parts.2))
  where
    by : (short : Bool) → IsThere (dir n inside after) base (base ++ n ∷ [], Dir inside)
        → AreThere (dir n inside after) base (entries_in (base ++ n ∷ []) inside)
        → AreThere (dir n inside after) base (entries_in base (without_shorties after))
        → AreThere (dir n inside after) base (entries_in base (cond short (without_shorties after) (dir n inside (without_shorties after))))
    by true here in_it later = later
    by false here in_it later = (
      here,
      both_there (dir n inside after) base (entries_in (base ++ n ∷ []) inside) (entries_in base (without_shorties after))
          in_it later,
    )

-- ---- files

pub front_there : (directory : Forest) (base : Path) (front left : List Entry) → AreThere directory base (front ++ left) → AreThere directory base front
front_there directory base [] left there = tt
front_there directory base (entry ∷ front) left there = (there.0, front_there directory base front left there.1)

-- a file that is one of the entries stands there
pub file_of : {directory : Forest} {base : Path} (some : List Entry) (k : ℕ) {path : Path} {bytes : List ℕ} → AreThere directory base some
    → slice_get (files some) k ≡ Some (path, bytes) → IsThere directory base (path, File bytes)
file_of [] k there is = absurd (cc)
file_of {directory} {base} ((p, File b) ∷ some) zero {path} {bytes} there is =
    let same : (p, b) ≡ (path, bytes) = some_same (p, b) (path, bytes) is in
    let one : p ≡ path = ap (λ (f : (Path × List ℕ)). f.0) same in
    let two : b ≡ bytes = ap (λ (f : (Path × List ℕ)). f.1) same in
    rw one at (rw two at there.0)
file_of ((p, File b) ∷ some) (suc k) there is = file_of some k there.1 is
file_of ((p, Dir inside) ∷ some) k there is = file_of some k there.1 is
file_of ((p, Other) ∷ some) k there is = file_of some k there.1 is

-- of a directory in the tree: the file stands in the tree
pub file_stands : (top inside : Forest) (at : Path) (front left : List Entry) (k : ℕ) {path : Path} {bytes : List ℕ} → AreThere inside [] (front ++ left)
    → ((below : Path) → node_at (Dir top) (at ++ below) ≡ node_at (Dir inside) below) → slice_get (files front) k ≡ Some (path, bytes)
    → file_at top (at ++ path) ≡ Some bytes
file_stands top inside at front left k there down is =
    let it = file_of front k (front_there inside [] front left there) is in
    ap (option_and_then as_file) (ap (λ (p : Path). node_at (Dir top) (at ++ p)) it.path ∙ down (it.name ∷ it.rest) ∙ it.stands)
