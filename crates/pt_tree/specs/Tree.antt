-- The tree of a destination: what stands at each path.
use Rattle.std.specs.Prelude.{◌≡◌, ℕ, cond, List, [], ◌∷◌, ◌++◌, Option, None, Some, IsSome}
use Rattle.std.specs.Option.{option_map}
use Rattle.pt_tree.specs.declared.kind.Kind.{Kind}
use Rattle.pt_tree.specs.declared.kind.Kind.TheVariants as kind
use Rattle.pt_tree.specs.Forest.{Forest, Node, node_at}
use Rattle.pt_tree.specs.Forest as node
use Rattle.pt_tree.specs.Path.{Path, same_path, rest_below, parent}

-- what stands at a path
pub data Entry : Type 0 where
  Bytes : (bytes : List ℕ) → Entry
  Folder : Entry
  Special : Entry

-- at each path what stands there, if anything; the empty path is the top
abbrev pub Tree : Type 0
Tree = Path → Option Entry

-- what stands, as an entry of a destination's tree
abbrev pub entry_of : Node → Entry
entry_of (node.File bytes) = Bytes bytes
entry_of (node.Dir inside) = Folder
entry_of node.Other = Special

-- the tree of a source, path by path
abbrev pub tree_of : Forest → Tree
tree_of forest = λ path. option_map entry_of (node_at (node.Dir forest) path)

-- the kind of an entry
abbrev pub kind_of_entry : Entry → Kind
kind_of_entry (Bytes bytes) = kind.File
kind_of_entry Folder = kind.Dir
kind_of_entry Special = kind.Other

-- the bytes of a file that stands
abbrev pub bytes_of : Option Entry → Option (List ℕ)
bytes_of None = None
bytes_of (Some (Bytes bytes)) = Some bytes
bytes_of (Some Folder) = None
bytes_of (Some Special) = None

-- with this at p
abbrev pub put : Tree → Path → Entry → Tree
put t p e = λ q. cond (same_path q p) (Some e) (t q)

-- with g of the bytes of what stands at p, if that is a file
abbrev pub edited_by : (List ℕ → List ℕ) → Option Entry → Option Entry
edited_by g None = None
edited_by g (Some (Bytes bytes)) = Some (Bytes (g bytes))
edited_by g (Some Folder) = Some Folder
edited_by g (Some Special) = Some Special

-- with a piece added to the file at p
abbrev pub added : Tree → Path → List ℕ → Tree
added t p piece = λ q. cond (same_path q p) (edited_by (λ bytes. bytes ++ piece) (t p)) (t q)

-- what stands at q once all at and below `from` is at and below `to`: rest_to is q below `to`, rest_from q below `from`
abbrev pub moved_at : Tree → Path → Option Path → Option Path → Path → Option Entry
moved_at t from (Some rest) rest_from q = t (from ++ rest)
moved_at t from None (Some rest) q = None
moved_at t from None None q = t q

-- all at and below `from` is at and below `to`
abbrev pub moved : Tree → Path → Path → Tree
moved t from to = λ q. moved_at t from (rest_below to q) (rest_below from q) q

-- without all at and below p
abbrev pub without_at : Option Path → Option Entry → Option Entry
without_at (Some rest) here = None
without_at None here = here

-- the tree without what stands at a path and below it
abbrev pub without : Tree → Path → Tree
without t p = λ q. without_at (rest_below p q) (t q)

-- a folder is above each entry, up to the top
pub record IsTree (t : Tree) : Type 0 where
  pub top : t [] ≡ Some Folder
  pub above : (p : Path) (n : List ℕ) → IsSome (t (p ++ n ∷ [])) → t p ≡ Some Folder

-- something may be made at p: it is absent, and its parent is a folder
pub record CanMake (t : Tree) (p : Path) : Type 0 where
  pub absent : t p ≡ None
  pub in_folder : t (parent p) ≡ Some Folder

-- what stands at `from` may be moved: it is there, `to` may be made and isn't at or below `from`
pub record CanMove (t : Tree) (from to : Path) : Type 0 where
  pub stands : IsSome (t from)
  pub target : CanMake t to
  pub apart : rest_below from to ≡ None
