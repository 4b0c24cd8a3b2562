-- The open file of a memory tree.
use Rattle.std.specs.Prelude.{ℕ, Bool, ◌+◌, cond, take, drop, List, [], ◌∷◌, Option, None, Some}
use Rattle.std.specs.Option.{option_map, option_or}
use Rattle.std.specs.Str.{bytes_eq}
use Rattle.pt_tree.specs.Forest.{Forest, none, file, other, dir}
use Rattle.pt_tree.specs.Path.{Path, same_path}

-- the path below a directory of this name; empty where it leads elsewhere
abbrev pub below : Path → List ℕ → Path
below [] name = []
below (first ∷ rest) name = cond (bytes_eq first name) rest []

-- the path is this name alone
abbrev pub is_just : Path → List ℕ → Bool
is_just path name = same_path path (name ∷ [])

-- which file is open once the one at a path was opened
abbrev pub opened : Forest → Path → Option (Path × ℕ)
opened none path = None
opened (file name bytes after) path =
    option_or (cond (is_just path name) (Some (name ∷ [], 0)) None) (opened after path)
opened (other name after) path = opened after path
opened (dir name inside after) path =
    option_or (option_map (λ o. (name ∷ o.0, o.1)) (opened inside (below path name)))
    (opened after path)

-- what a read gives of the open file's bytes and place; with none open, what the block was
abbrev pub block_after : Option (List ℕ × ℕ) → List ℕ → List ℕ
block_after None before = before
block_after (Some o) before = take 8192 (drop o.1 o.0)

-- the place moved on
abbrev pub moved_on : Option (Path × ℕ) → ℕ → Option (Path × ℕ)
moved_on place count = option_map (λ o. (o.0, o.1 + count)) place
