-- The entry at the innermost place of a trail through a tree.
use Rattle.std.proofs.Common.{◌≡◌, ℕ, List, [], ◌∷◌, ◌++◌, ◌+◌, true, refl, ◌∙◌, ap, sym, subst, add-one, suc, zero}
use Rattle.std.specs.Prelude.{IsSome, None, Option, Some, slice_get, option_to_list, unwrap_or}
use Rattle.std.specs.Option.{option_and_then, option_map}
use Rattle.pt_tree.specs.declared.kind.Kind.TheVariants as kind
use Rattle.pt_tree.specs.Listing.{Item}
use Rattle.pt_tree.specs.Path.{Path}
use Rattle.pt_tree.specs.Forest.{
  Forest,
  none,
  file,
  other,
  dir,
  Node,
  File,
  Dir,
  Other,
  as_dir,
  as_file,
  dir_at,
  file_at,
  is_proper,
  kind_of,
  listing_at,
  listing_of,
  node_at,
}
use Rattle.pt_tree.proofs.AtPaths.{proper_dir_at}
use Rattle.pt_walk.specs.declared.frame.Frame.{Frame}
use Rattle.pt_walk.specs.Left.{bytes_at, entries_from, inside_at}
use Rattle.pt_walk.specs.Trail.{entry_at, names_to}
use Rattle.pt_walk.proofs.Paths.{dir_listed, node_below}
use Rattle.pt_walk.proofs.Standing.{standing, with_entry}

-- what is known of the entry: its node, with which the rest of its directory begins, and which stands at its path
pub record Ahead (top : Forest) (path : Path) (place : ℕ) (item : Item) : Type 0 where
  pub node : Node
  pub kind_is : kind_of node ≡ item.1
  pub rest_is : entries_from place (inside_at top path) ≡ with_entry item.0 node (entries_from (place + 1) (inside_at top path))
  pub node_is : node_at (Dir top) (path ++ item.0 ∷ []) ≡ Some node

pub ahead : (top : Forest) (path : Path) (items : List Item) (place : ℕ) (item : Item) → is_proper top ≡ true → listing_at top path ≡ Some items
    → slice_get items place ≡ Some item → Ahead top path place item
ahead top path items place item proper listed e =
    let at = dir_listed top path items listed in
    let here : inside_at top path ≡ at.inside = ap (λ o. unwrap_or o none) at.dir_is in
    let it = standing at.inside place item (proper_dir_at top path at.inside proper at.dir_is) (ap (λ l. slice_get l place) at.items_are ∙ e) in
    let rest : entries_from place at.inside ≡ with_entry item.0 it.node (entries_from (place + 1) at.inside) =
    it.rest_is ∙ ap (λ k. with_entry item.0 it.node (entries_from k at.inside)) (sym (add-one place)) in
    record {
      node = it.node;
      kind_is = it.kind_is;
      rest_is = subst (λ (d : Forest). entries_from place d ≡ with_entry item.0 it.node (entries_from (place + 1) d)) (sym here) rest;
      node_is = node_below top path item.0 at.inside at.node_is ∙ it.found_is;
    }

nothing_from : (f : Forest) (place : ℕ) → slice_get (listing_of f) place ≡ None → entries_from place f ≡ none
nothing_from none zero e = refl
nothing_from none (suc i) e = refl
nothing_from (file n b f) zero e = absurd (cc)
nothing_from (other n f) zero e = absurd (cc)
nothing_from (dir n d f) zero e = absurd (cc)
nothing_from (file n b f) (suc i) e = nothing_from f i e
nothing_from (other n f) (suc i) e = nothing_from f i e
nothing_from (dir n d f) (suc i) e = nothing_from f i e

-- at the end nothing is left of the directory
pub nothing_ahead : (top : Forest) (path : Path) (items : List Item) (place : ℕ) → listing_at top path ≡ Some items → slice_get items place ≡ None
    → entries_from place (inside_at top path) ≡ none
nothing_ahead top path items place listed e =
    let at = dir_listed top path items listed in
    let here : inside_at top path ≡ at.inside = ap (λ o. unwrap_or o none) at.dir_is in
    ap (entries_from place) here ∙ nothing_from at.inside place (ap (λ l. slice_get l place) at.items_are ∙ e)

-- the path of a directory that is entered
pub names_to-entry : (frame : Frame) (frames : List Frame) (item : Item) → entry_at frame ≡ Some item
    → names_to (frame ∷ frames) ≡ names_to frames ++ item.0 ∷ []
names_to-entry frame frames item e = ap (λ o. names_to frames ++ option_to_list (option_map (λ (x : Item). x.0) o)) e

-- the entry is a directory
pub record DirAhead (top : Forest) (path : Path) (place : ℕ) (name : List ℕ) : Type 0 where
  pub rest_is : entries_from place (inside_at top path) ≡ dir name (inside_at top (path ++ name ∷ [])) (entries_from (place + 1) (inside_at top path))
  pub dir_is : dir_at top (path ++ name ∷ []) ≡ Some (inside_at top (path ++ name ∷ []))

dir_from : (top : Forest) (path : Path) (place : ℕ) (name : List ℕ) (node : Node) → kind_of node ≡ kind.Dir
    → entries_from place (inside_at top path) ≡ with_entry name node (entries_from (place + 1) (inside_at top path))
    → node_at (Dir top) (path ++ name ∷ []) ≡ Some node → DirAhead top path place name
dir_from top path place name (File bytes) is rest at = absurd (cc)
dir_from top path place name Other is rest at = absurd (cc)
dir_from top path place name (Dir inside) is rest at =
    let there : dir_at top (path ++ name ∷ []) ≡ Some inside = ap (option_and_then as_dir) at in
    let here : inside_at top (path ++ name ∷ []) ≡ inside = ap (λ o. unwrap_or o none) there in
    record {
      rest_is = rest ∙ ap (λ d. dir name d (entries_from (place + 1) (inside_at top path))) (sym here);
      dir_is = there ∙ ap (λ (d : Forest). Some d) (sym here);
    }

pub dir_ahead : (top : Forest) (path : Path) (items : List Item) (place : ℕ) (name : List ℕ) → is_proper top ≡ true → listing_at top path ≡ Some items
    → slice_get items place ≡ Some (name, kind.Dir) → DirAhead top path place name
dir_ahead top path items place name proper listed e =
    let it = ahead top path items place (name, kind.Dir) proper listed e in
    dir_from top path place name it.node it.kind_is it.rest_is it.node_is

-- the entry is a file
pub record FileAhead (top : Forest) (path : Path) (place : ℕ) (name : List ℕ) : Type 0 where
  pub rest_is : entries_from place (inside_at top path) ≡ file name (bytes_at top (path ++ name ∷ [])) (entries_from (place + 1) (inside_at top path))
  pub file_is : file_at top (path ++ name ∷ []) ≡ Some (bytes_at top (path ++ name ∷ []))

file_from : (top : Forest) (path : Path) (place : ℕ) (name : List ℕ) (node : Node) → kind_of node ≡ kind.File
    → entries_from place (inside_at top path) ≡ with_entry name node (entries_from (place + 1) (inside_at top path))
    → node_at (Dir top) (path ++ name ∷ []) ≡ Some node → FileAhead top path place name
file_from top path place name (Dir inside) is rest at = absurd (cc)
file_from top path place name Other is rest at = absurd (cc)
file_from top path place name (File bytes) is rest at =
    let there : file_at top (path ++ name ∷ []) ≡ Some bytes = ap (option_and_then as_file) at in
    let here : bytes_at top (path ++ name ∷ []) ≡ bytes = ap (λ o. unwrap_or o []) there in
    record {
      rest_is = rest ∙ ap (λ b. file name b (entries_from (place + 1) (inside_at top path))) (sym here);
      file_is = there ∙ ap (λ (b : List ℕ). Some b) (sym here);
    }

pub file_ahead : (top : Forest) (path : Path) (items : List Item) (place : ℕ) (name : List ℕ) → is_proper top ≡ true → listing_at top path ≡ Some items
    → slice_get items place ≡ Some (name, kind.File) → FileAhead top path place name
file_ahead top path items place name proper listed e =
    let it = ahead top path items place (name, kind.File) proper listed e in
    file_from top path place name it.node it.kind_is it.rest_is it.node_is

other_from : (top : Forest) (path : Path) (place : ℕ) (name : List ℕ) (node : Node) → kind_of node ≡ kind.Other
    → entries_from place (inside_at top path) ≡ with_entry name node (entries_from (place + 1) (inside_at top path))
    → entries_from place (inside_at top path) ≡ other name (entries_from (place + 1) (inside_at top path))
other_from top path place name (File bytes) is rest = absurd (cc)
other_from top path place name (Dir inside) is rest = absurd (cc)
other_from top path place name Other is rest = rest

-- the entry is neither
pub other_ahead : (top : Forest) (path : Path) (items : List Item) (place : ℕ) (name : List ℕ) → is_proper top ≡ true → listing_at top path ≡ Some items
    → slice_get items place ≡ Some (name, kind.Other)
    → entries_from place (inside_at top path) ≡ other name (entries_from (place + 1) (inside_at top path))
other_ahead top path items place name proper listed e =
    let it = ahead top path items place (name, kind.Other) proper listed e in
    other_from top path place name it.node it.kind_is it.rest_is

-- what a folder lists is what it holds
pub inside_lists : (top : Forest) (path : Path) (items : List Item) → listing_at top path ≡ Some items → listing_of (inside_at top path) ≡ items
inside_lists top path items listed = by (dir_at top path) listed
  where
    by : (found : Option Forest) → option_map listing_of found ≡ Some items → listing_of (unwrap_or found none) ≡ items
    by None is = absurd (cc)
    by (Some inside) is = cc

-- a folder that is listed stands there
pub dir_stands : (top : Forest) (path : Path) (items : List Item) (place : ℕ) (name : List ℕ) → is_proper top ≡ true → listing_at top path ≡ Some items
    → slice_get items place ≡ Some (name, kind.Dir) → IsSome (dir_at top (path ++ name ∷ []))
dir_stands top path items place name proper listed at =
    let it = dir_ahead top path items place name proper listed at in
    subst (λ (o : Option Forest). IsSome o) (sym it.dir_is) refl
