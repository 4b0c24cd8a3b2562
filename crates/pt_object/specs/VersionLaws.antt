-- The version of an object means the files of which it was made.
use Rattle.std.specs.Prelude.{◌≡◌, ℕ, All, List, Some, true, ◌++◌}
use Rattle.std.specs.List.{list_all}
use Rattle.pt_tree.specs.Path.{Path}
use Rattle.pt_tree.specs.Tree.{Tree}
use Rattle.pt_object.specs.Algorithm.{digest_of}
use Rattle.pt_object.specs.FilePaths.{File, paths_of}
use Rattle.pt_tree.specs.PathOrder.{is_logical, part_in_order}
use Rattle.pt_object.specs.MetaParts.{MetaParts}
use Rattle.pt_object.specs.Object.{object_of}
use Rattle.pt_object.specs.VersionState.{v1_state}
use Rattle.pt_object.specs.declared.algorithm.Algorithm.{Algorithm}

-- no two of these files whose bytes differ have one digest
abbrev pub DigestsTellApart : Algorithm → List File → Type 0
DigestsTellApart algorithm files =
    All (λ f. All (λ g. digest_of algorithm f.1 ≡ digest_of algorithm g.1 → f.1 ≡ g.1) files) files

-- Wherever the object of these files stands in a tree, the state of its version is those files: their paths are logical ones and come in order, none
-- leading to another, and their digests tell their bytes apart.
abbrev pub StateIsTheFiles : Type 0
StateIsTheFiles =
    (id : List ℕ) (files : List File) (meta : MetaParts) (algorithm : Algorithm) (t : Tree) (place : Path)
    → part_in_order (paths_of files) ≡ true → list_all is_logical (paths_of files) ≡ true
    → DigestsTellApart algorithm files
    → ((q : Path) → t (place ++ q) ≡ object_of id files meta algorithm q) → v1_state t place ≡ Some files
