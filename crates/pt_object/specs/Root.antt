-- A storage root as a target tree.
use Rattle.std.specs.Prelude.{[], Option, None, Some}
use Rattle.pt_name.specs.Tuples.{Tuples}
use Rattle.pt_tree.specs.Tree.{Entry, Tree}
use Rattle.pt_object.specs.Holding.{holding}
use Rattle.pt_object.specs.RootFiles.{root_files_of}

-- a new storage root: its three files, the folders above them, and nothing else (OCFL 1.1, "Root Structure"; extension 0003)
abbrev pub root_of : Tuples → Tree
root_of tuples = holding (root_files_of tuples)

-- the root that stands, or a new one where nothing does
abbrev pub base_where : Tuples → Tree → Option Entry → Tree
base_where tuples root None = root_of tuples
base_where tuples root (Some entry) = root

-- on what objects are put: the root that stands, or a new one where nothing does
abbrev pub base : Tuples → Tree → Tree
base tuples root = base_where tuples root (root [])
