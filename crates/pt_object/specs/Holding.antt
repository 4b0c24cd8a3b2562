-- The target tree that holds some files and nothing else, and a target tree put into another.
use Rattle.std.specs.Prelude.{◌≡◌, ℕ, Bool, true, false, cond, List, [], ◌∷◌, ◌++◌, Option, None, Some, is_some}
use Rattle.std.specs.List.{list_any}
use Rattle.pt_tree.specs.Path.{Path, same_path, rest_below}
use Rattle.pt_tree.specs.Tree.{Entry, Bytes, Folder, Tree}
use Rattle.pt_object.specs.FilePaths.{File}

-- what the first of these files at this path holds
abbrev pub held_at : List File → Path → Option (List ℕ)
held_at [] p = None
held_at (file ∷ files) p = cond (same_path p file.0) (Some file.1) (held_at files p)

-- a file stands at the path or below it
abbrev pub leads_to : List File → Path → Bool
leads_to files p = list_any (λ file. is_some (rest_below p file.0)) files

-- a file, if there is one; else a folder, if one is needed
abbrev pub file_or_folder : Option (List ℕ) → Bool → Option Entry
file_or_folder (Some bytes) needed = Some (Bytes bytes)
file_or_folder None true = Some Folder
file_or_folder None false = None

-- at each file's path its bytes, at each proper prefix of one a folder, and nothing else
abbrev pub holding : List File → Tree
holding files = λ p. file_or_folder (held_at files p) (leads_to files p)

-- what stands within the tree that is put there, or else what stands already
abbrev pub placed_at : Tree → Option Path → Option Entry → Option Entry
placed_at inside (Some rest) here = inside rest
placed_at inside None here = here

-- with this tree at and below a path
abbrev pub placed : Tree → Path → Tree → Tree
placed t p inside = λ q. placed_at inside (rest_below p q) (t q)

-- nothing stands at the path or below it
abbrev pub IsFree : Tree → Path → Type 0
IsFree t p = (q : Path) → t (p ++ q) ≡ None
