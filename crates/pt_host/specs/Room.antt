-- How long a path that is made in `staging` may be, and a file's in its object.
use Rattle.std.specs.Prelude.{◌≡◌, ℕ, ◌+◌, ◌-◌, ◌*◌, true, nat_lt, List, ◌++◌, length}
use Rattle.pt_folder.specs.Folder.{entry_text}
use Rattle.pt_name.specs.Tuples.{Tuples}
use Rattle.pt_tree.specs.PathOrder.{is_logical}
use Rattle.pt_plan.specs.Fixity.{content_folder}
use Rattle.pt_tree.specs.Path.{Path, joined}

-- By how many bytes the longest place in `ocfl` is longer than `staging`: `ocfl/`, each tuple with its `/`, and a last name of
-- 165 bytes, less the 7 of `staging`.
abbrev pub place_overhead : Tuples → ℕ
place_overhead layout = layout.count * (layout.size + 1) + 163

-- the greatest length of a path that is made in `staging`
abbrev pub longest_in : Tuples → ℕ
longest_in layout = 4095 - place_overhead layout

-- the path at which a run makes the file that has this path in its object, in the folder at a path
abbrev pub made_at : List ℕ → Path → List ℕ
made_at dest logical = entry_text dest (content_folder ++ logical)

-- the greatest length of a file's path in its object, in the folder at a path: what is left behind `/staging/v1/content/`
abbrev pub room_in : List ℕ → Tuples → ℕ
room_in dest layout = (longest_in layout - 20) - length dest

-- a file's path in its object is longer than that just where the path at which a run makes the file is longer than any that is made
abbrev pub RoomIsThatOfStaging : Type 0
RoomIsThatOfStaging =
    (dest : List ℕ) (layout : Tuples) (logical : Path) → is_logical logical ≡ true
    → nat_lt (room_in dest layout) (length (joined logical)) ≡ nat_lt (longest_in layout) (length (made_at dest logical))
