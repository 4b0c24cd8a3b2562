-- What stands at each path of a tree in which deep files are seen by lengths.
use Rattle.std.specs.Prelude.{◌≡◌, ◌-◌, ℕ, cond, length, true}
use Rattle.std.specs.Option.{option_map}
use Rattle.pt_tree.specs.Forest.{Forest, Node, File, Dir, Other, dir_at, file_at, is_proper}
use Rattle.pt_tree.specs.Forest.{kind_at, listing_at, listing_of, node_at}
use Rattle.pt_tree.specs.Path.{Path}
use Rattle.pt_tree.specs.Tree.{tree_of}
use Rattle.pt_quick.specs.ByDepth.{is_deep, measured, tree_measured}
use Rattle.pt_quick.specs.Measured.{text_of_file}

-- what stands at a path, seen so
abbrev pub node_measured : ℕ → ℕ → Path → Node → Node
node_measured longest depth p (File bytes) =
    File (cond (is_deep depth p) (text_of_file longest bytes) bytes)
node_measured longest depth p (Dir inside) = Dir (measured longest (depth - length p) inside)
node_measured longest depth p Other = Other

-- what stands at a path is what stood there, seen so
abbrev pub NodesAreMeasured : Type 0
NodesAreMeasured = (longest depth : ℕ) (f : Forest) (p : Path)
    → node_at (Dir (measured longest depth f)) p
    ≡ option_map (node_measured longest depth p) (node_at (Dir f) p)

-- a deep file has the text of its length, and any other its own bytes
abbrev pub FilesAreMeasured : Type 0
FilesAreMeasured = (longest depth : ℕ) (f : Forest) (p : Path)
    → file_at (measured longest depth f) p
    ≡ cond (is_deep depth p) (option_map (text_of_file longest) (file_at f p)) (file_at f p)

-- a directory is seen by what is left of the depth
abbrev pub FoldersAreMeasured : Type 0
FoldersAreMeasured = (longest depth : ℕ) (f : Forest) (p : Path)
    → dir_at (measured longest depth f) p
    ≡ option_map (measured longest (depth - length p)) (dir_at f p)

-- what stands is of the same kind
abbrev pub KindsStay : Type 0
KindsStay = (longest depth : ℕ) (f : Forest) (p : Path)
    → kind_at (measured longest depth f) p ≡ kind_at f p

-- a directory lists what it listed
abbrev pub ListingsStay : Type 0
ListingsStay = (longest depth : ℕ) (f : Forest)
    → listing_of (measured longest depth f) ≡ listing_of f

-- so does the one at any path
abbrev pub ListingsStayAt : Type 0
ListingsStayAt = (longest depth : ℕ) (f : Forest) (p : Path)
    → listing_at (measured longest depth f) p ≡ listing_at f p

-- in each directory the names rise still
abbrev pub StaysProper : Type 0
StaysProper = (longest depth : ℕ) (f : Forest)
    → is_proper f ≡ true → is_proper (measured longest depth f) ≡ true

-- path by path: of deep files the texts of their lengths stand, and all else as it is
abbrev pub TreesAreMeasured : Type 0
TreesAreMeasured = (longest depth : ℕ) (f : Forest)
    → tree_of (measured longest depth f) ≡ tree_measured longest depth (tree_of f)
