-- What an object holds, in the order in which it is walked. A path leads from below the object's directory.
use Rattle.std.specs.Prelude.{ℕ, ◌+◌, ◌||◌, cond, nat_le, nat_lt, List, [], ◌∷◌, ◌++◌, length, Option, None, Some, is_none}
use Rattle.pt_tree.specs.Forest.{Forest, none, file, other, dir, Node, File, Dir, Other}
use Rattle.pt_tree.specs.Path.{Path, joined}
use Rattle.pt_walk.specs.declared.cause.Cause.{Cause}
use Rattle.pt_walk.specs.declared.cause.Cause.TheVariants as cause
use Rattle.pt_walk.specs.Limits.{Bounds}
use Rattle.pt_walk.specs.Site.{is_short}

-- where an entry stands, and what stands there
abbrev pub Entry : Type 0
Entry = Path × Node

-- the entries of the directory at this path, each followed by those inside it
abbrev pub entries_in : Path → Forest → List Entry
entries_in path none = []
entries_in path (file name bytes after) = (path ++ name ∷ [], File bytes) ∷ entries_in path after
entries_in path (other name after) = (path ++ name ∷ [], Other) ∷ entries_in path after
entries_in path (dir name inside after) = (path ++ name ∷ [], Dir inside)
    ∷ (entries_in (path ++ name ∷ []) inside ++ entries_in path after)

-- the entries of an object's directory
abbrev pub entries : Forest → List Entry
entries object = entries_in [] object

-- what a site holds beside its shorties
abbrev pub without_shorties : Forest → Forest
without_shorties none = none
without_shorties (file name bytes after) = file name bytes (without_shorties after)
without_shorties (other name after) = other name (without_shorties after)
without_shorties (dir name inside after) =
    cond (is_short name) (without_shorties after) (dir name inside (without_shorties after))

-- the files among these
abbrev pub files : List Entry → List (Path × List ℕ)
files [] = []
files ((path, File bytes) ∷ others) = (path, bytes) ∷ files others
files ((path, Dir inside) ∷ others) = files others
files ((path, Other) ∷ others) = files others

-- 1 for a directory without entries
abbrev pub emptiness : Forest → ℕ
emptiness none = 1
emptiness (file name bytes after) = 0
emptiness (other name after) = 0
emptiness (dir name inside after) = 0

-- how many of these are directories without entries
abbrev pub empties : List Entry → ℕ
empties [] = 0
empties ((path, File bytes) ∷ others) = empties others
empties ((path, Dir inside) ∷ others) = emptiness inside + empties others
empties ((path, Other) ∷ others) = empties others

-- how many directories without entries an object has, its own directory included
abbrev pub empties_of : Forest → ℕ
empties_of object = emptiness object + empties (entries object)

-- why an object isn't carried that has this entry after so many files, if its directory has this depth
abbrev pub entry_cause : Bounds → ℕ → ℕ → Entry → Option Cause
entry_cause limits depth held (path, File bytes) =
    cond (nat_le limits.files held || nat_lt limits.path_bytes (length (joined path))
    || nat_lt limits.file_bytes (length bytes)) (Some cause.Limit) None
entry_cause limits depth held (path, Dir inside) =
    cond (nat_lt limits.depth (depth + length path)) (Some cause.Limit) None
entry_cause limits depth held (path, Other) = Some cause.Other

-- the files so far, with this entry
abbrev pub files_with : ℕ → Entry → ℕ
files_with held (path, File bytes) = held + 1
files_with held (path, Dir inside) = held
files_with held (path, Other) = held

-- the entries before the first bad one
abbrev pub before_bad : Bounds → ℕ → ℕ → List Entry → List Entry
before_bad limits depth held [] = []
before_bad limits depth held (entry ∷ others) =
    cond (is_none (entry_cause limits depth held entry))
    (entry ∷ before_bad limits depth (files_with held entry) others) []

-- the entry with its cause, if it is bad; else what is found later
abbrev pub bad_or : Option Cause → Entry → Option (Entry × Cause) → Option (Entry × Cause)
bad_or None entry later = later
bad_or (Some why) entry later = Some (entry, why)

-- the first bad entry, with its cause
abbrev pub first_bad : Bounds → ℕ → ℕ → List Entry → Option (Entry × Cause)
first_bad limits depth held [] = None
first_bad limits depth held (entry ∷ others) =
    bad_or (entry_cause limits depth held entry) entry
    (first_bad limits depth (files_with held entry) others)
