-- A trail through a tree, step by step.
use Rattle.std.proofs.Common.{
  ◌≡◌,
  ℕ,
  List,
  [],
  ◌∷◌,
  ◌++◌,
  ◌+◌,
  ◌&&◌,
  length,
  true,
  refl,
  arith,
  ◌∙◌,
  ap,
  sym,
  subst,
  zero,
  suc,
  take,
  drop,
  append-nil,
  append_assoc,
  length-append,
}
use Rattle.std.specs.Prelude.{Option, None, Some, unwrap_or, option_to_list}
use Rattle.std.specs.Option.{option_and_then, option_map}
use Rattle.std.proofs.lemmas.Bool.{and_from, and_parts}
use Rattle.pt_tree.specs.Forest.{Forest, none, Node, File, Dir, Other, find, is_proper, listing_of, node_at}
use Rattle.pt_tree.specs.Listing.{Item}
use Rattle.pt_tree.specs.Path.{Path}
use Rattle.pt_tree.proofs.AtPaths.{proper_dir_at}
use Rattle.pt_walk.specs.Left.{inside_at, listed_from}
use Rattle.pt_walk.specs.Trail.{are_outer, entry_at, is_dir_entry, is_frame, names_to, name_at}
use Rattle.pt_walk.specs.declared.frame.Frame.{Frame}
use Rattle.pt_walk.specs.TrailLaws.{
  FitsWhenEntered,
  FitsWhenMoved,
  DirectoryIsThere,
  FileIsThere,
  ListingIsThere,
  PathGrows,
  HoldsWhatIsListed,
  PathSplits,
  PathHasANameForEach,
}
use Rattle.pt_walk.proofs.Ahead.{dir_ahead, file_ahead, names_to-entry}
use Rattle.pt_walk.proofs.Paths.{dir_listed}

pub fits_entered : FitsWhenEntered
fits_entered top frames items fits listing = (listing, fits)

pub fits_moved : FitsWhenMoved
fits_moved top [] place fits = (tt, tt, tt)
fits_moved top (frame ∷ frames) place fits = (fits, fits, fits.1)

pub directory_there : DirectoryIsThere
directory_there top frame frames name proper fits e = (dir_ahead top (names_to frames) frame.listing frame.place name proper fits.0 e).dir_is

pub file_there : FileIsThere
file_there top frame frames name proper fits e = (file_ahead top (names_to frames) frame.listing frame.place name proper fits.0 e).file_is

pub listing_there : ListingIsThere
listing_there top frame frames proper fits =
    let at = dir_listed top (names_to frames) frame.listing fits.0 in
    let here : inside_at top (names_to frames) ≡ at.inside = ap (λ o. unwrap_or o none) at.dir_is in (
      at.dir_is ∙ ap (λ (d : Forest). Some d) (sym here),
      ap listing_of here ∙ at.items_are,
      subst (λ (d : Forest). is_proper d ≡ true) (sym here) (proper_dir_at top (names_to frames) at.inside proper at.dir_is),
    )

pub path_grows : PathGrows
path_grows = names_to-entry

-- one directory more lists its entries
listed_from-push : (node : Node) (path : Path) (name : List ℕ) (inside : Forest) → node_at node (path ++ name ∷ []) ≡ Some (Dir inside)
    → listed_from node (path ++ name ∷ []) ≡ listed_from node path + length (listing_of inside)
listed_from-push (File bytes) [] name inside e = absurd (cc)
listed_from-push (File bytes) (n ∷ path) name inside e = absurd (cc)
listed_from-push Other [] name inside e = absurd (cc)
listed_from-push Other (n ∷ path) name inside e = absurd (cc)
listed_from-push (Dir d) [] name inside e = by_found (find d name) e
  where
    by_found : (o : Option Node) → option_and_then (λ n. node_at n []) o ≡ Some (Dir inside)
        → length (listing_of d) + unwrap_or (option_map (λ n. listed_from n []) o) 0 ≡ length (listing_of d) + length (listing_of inside)
    by_found None h = absurd (cc)
    by_found (Some node) h =
        let is : node ≡ Dir inside = cc in
        ap (λ n. length (listing_of d) + listed_from n []) is
listed_from-push (Dir d) (n ∷ path) name inside e = by_found (λ node. listed_from-push node path name inside) (find d n) e
  where
    by_found : ((node : Node) → node_at node (path ++ name ∷ []) ≡ Some (Dir inside)
        → listed_from node (path ++ name ∷ []) ≡ listed_from node path + length (listing_of inside)) → (o : Option Node)
        → option_and_then (λ m. node_at m (path ++ name ∷ [])) o ≡ Some (Dir inside)
        → length (listing_of d) + unwrap_or (option_map (λ m. listed_from m (path ++ name ∷ [])) o) 0
        ≡ length (listing_of d) + unwrap_or (option_map (λ m. listed_from m path) o) 0 + length (listing_of inside)
    by_found each None h = absurd (cc)
    by_found each (Some node) h =
        let more = each node h in
        omega (arith, more)

dir_entry : (o : Option Item) → is_dir_entry o ≡ true → (item : Item) × (o ≡ Some item)
dir_entry None h = absurd (cc)
dir_entry (Some item) h = (item, refl)

pub holds_listed : HoldsWhatIsListed
holds_listed top frame [] is fits =
    let at = dir_listed top [] frame.listing fits.0 in
    let here : top ≡ at.inside = cc (at.node_is) in
    let held : length (listing_of top) ≡ length frame.listing = ap (λ d. length (listing_of d)) here ∙ ap length at.items_are in
    omega (arith, held)
holds_listed top frame (outer ∷ frames) is fits =
    let parts = and_parts (is_frame frame) (are_outer (outer ∷ frames)) is in
    let outer_parts = and_parts (is_frame outer) (is_dir_entry (entry_at outer) && are_outer frames) parts.1 in
    let inner_parts = and_parts (is_dir_entry (entry_at outer)) (are_outer frames) outer_parts.1 in
    let entry = dir_entry (entry_at outer) inner_parts.0 in
    let names = names_to-entry outer frames entry.0 entry.1 in
    let at = dir_listed top (names_to (outer ∷ frames)) frame.listing fits.0 in
    let more = listed_from-push (Dir top) (names_to frames) entry.0.0 at.inside (ap (node_at (Dir top)) (sym names) ∙ at.node_is) in
    let before = holds_listed top outer frames (and_from (is_frame outer) (are_outer frames) outer_parts.0 inner_parts.1) fits.1 in
    let items = ap length at.items_are in
    let whole = ap (listed_from (Dir top)) names in
    omega (arith, more, before, items, whole)

pub path_splits : PathSplits
path_splits zero frames = sym (append-nil (names_to frames))
path_splits (suc k) [] = refl
path_splits (suc k) (frame ∷ frames) =
    ap (λ l. l ++ name_at frame) (path_splits k frames) ∙ append_assoc (names_to (drop k frames)) (names_to (take k frames)) (name_at frame)

one_name : (o : Option Item) → is_dir_entry o ≡ true → length (option_to_list (option_map (λ (x : Item). x.0) o)) ≡ 1
one_name None h = absurd (cc)
one_name (Some item) h = refl

-- a name for each of the frames around
pub outer_names : (frames : List Frame) → are_outer frames ≡ true → length (names_to frames) ≡ length frames
outer_names [] is = refl
outer_names (frame ∷ frames) is =
    let parts = and_parts (is_frame frame) (is_dir_entry (entry_at frame) && are_outer frames) is in
    let inner = and_parts (is_dir_entry (entry_at frame)) (are_outer frames) parts.1 in
    let more = length-append (names_to frames) (name_at frame) in
    let one = one_name (entry_at frame) inner.0 in
    let before = outer_names frames inner.1 in
    omega (arith, more, one, before)

pub name_for_each : PathHasANameForEach
name_for_each frame frames is = outer_names frames (and_parts (is_frame frame) (are_outer frames) is).1
