-- What stands at a path of a proper tree, one name further.
use Rattle.std.proofs.Common.{◌≡◌, ℕ, List, [], ◌∷◌, ◌++◌, refl, ◌∙◌, ap}
use Rattle.std.specs.Prelude.{Option, None, Some}
use Rattle.std.specs.Option.{option_map, option_and_then}
use Rattle.pt_tree.specs.Listing.{Item}
use Rattle.pt_tree.specs.Path.{Path}
use Rattle.pt_tree.specs.Forest.{Forest, Node, File, Dir, Other, as_dir, dir_at, find, listing_at, listing_of, node_at}
use Rattle.pt_tree.proofs.AtPaths.{proper_dir_at}
use Rattle.pt_tree.proofs.Renamed.{node-append}
use Rattle.pt_walk.specs.TrailLaws.{ReadsBelowADirectory}

-- a directory is there
pub record DirAt (top : Forest) (path : Path) (items : List Item) : Type 0 where
  pub inside : Forest
  pub dir_is : dir_at top path ≡ Some inside
  pub node_is : node_at (Dir top) path ≡ Some (Dir inside)
  pub items_are : listing_of inside ≡ items

pub dir_listed : (top : Forest) (path : Path) (items : List Item) → listing_at top path ≡ Some items → DirAt top path items
dir_listed top path items e = by_node (node_at (Dir top) path) refl e
  where
    by_node : (o : Option Node) → node_at (Dir top) path ≡ o → option_map listing_of (option_and_then as_dir o) ≡ Some items → DirAt top path items
    by_node None is h = absurd (cc)
    by_node (Some (File bytes)) is h = absurd (cc)
    by_node (Some Other) is h = absurd (cc)
    by_node (Some (Dir inside)) is h = record { inside = inside; dir_is = ap (option_and_then as_dir) is; node_is = is; items_are = cc }

-- one name further
pub node_below : (top : Forest) (path : Path) (name : List ℕ) (inside : Forest) → node_at (Dir top) path ≡ Some (Dir inside)
    → node_at (Dir top) (path ++ name ∷ []) ≡ find inside name
node_below top path name inside is = node-append (Dir top) path (name ∷ []) (Dir inside) is ∙ and_then_some (find inside name)
  where
    and_then_some : (o : Option Node) → option_and_then (λ n. node_at n []) o ≡ o
    and_then_some None = refl
    and_then_some (Some n) = refl

pub file_leads_nowhere : (bytes : List ℕ) (path : Path) (inside : Forest) → node_at (File bytes) path ≡ Some (Dir inside) → ⊥
file_leads_nowhere bytes [] inside e = cc
file_leads_nowhere bytes (name ∷ path) inside e = cc

pub other_leads_nowhere : (path : Path) (inside : Forest) → node_at Other path ≡ Some (Dir inside) → ⊥
other_leads_nowhere [] inside e = cc
other_leads_nowhere (name ∷ path) inside e = cc

dir_node : (tree : Forest) (path : Path) (inside : Forest) → dir_at tree path ≡ Some inside → node_at (Dir tree) path ≡ Some (Dir inside)
dir_node tree path inside e = by_node (node_at (Dir tree) path) refl e
  where
    by_node : (o : Option Node) → node_at (Dir tree) path ≡ o → option_and_then as_dir o ≡ Some inside → node_at (Dir tree) path ≡ Some (Dir inside)
    by_node None is h = absurd (cc)
    by_node (Some (File bytes)) is h = absurd (cc)
    by_node (Some Other) is h = absurd (cc)
    by_node (Some (Dir d)) is h = let same : d ≡ inside = cc in is ∙ ap (λ (f : Forest). Some (Dir f)) same

pub reads_below : ReadsBelowADirectory
reads_below tree inside path below e =
    (node-append (Dir tree) path below (Dir inside) (dir_node tree path inside e), λ proper. proper_dir_at tree path inside proper e)
