-- The paths of an object's files.
use Rattle.std.specs.Prelude.{ℕ, ◌&&◌, Bool, true, List, [], ◌∷◌, map, is_none}
use Rattle.std.specs.List.{list_all}
use Rattle.pt_tree.specs.Path.{Path, rest_below}
use Rattle.pt_object.specs.declared.rows.Row.{Row}

-- where a file stands, and what it holds
abbrev pub File : Type 0
File = Path × List ℕ

-- the paths of these files
abbrev pub paths_of : List File → List Path
paths_of files = map (λ file. file.0) files

-- the paths of these rows
abbrev pub row_paths : List Row → List Path
row_paths rows = map (λ row. row.path) rows

-- neither path is the other or leads to it
abbrev pub is_apart : Path → Path → Bool
is_apart p q = is_none (rest_below p q) && is_none (rest_below q p)

-- no path is another or leads to it
abbrev pub are_apart : List Path → Bool
are_apart [] = true
are_apart (p ∷ paths) = list_all (is_apart p) paths && are_apart paths
