-- What of an object is made in `staging` before each of its parts, and that a run stands where the next content may be made.
use Rattle.std.specs.Prelude.{
  ◌≡◌,
  ◌<◌,
  ◌≤◌,
  ℕ,
  ◌+◌,
  Bool,
  true,
  codes,
  List,
  [],
  ◌∷◌,
  ◌++◌,
  drop,
  filter,
  is_some,
  length,
  map,
  not,
  Option,
  None,
  Some,
  slice_get,
  take,
  ⊤,
}
use Rattle.std.specs.List.{list_all, list_any}
use Rattle.pt_object.specs.Distinct.{distinct}
use Rattle.pt_object.specs.FilePaths.{File}
use Rattle.pt_object.specs.Holding.{leads_to}
use Rattle.pt_object.specs.Inventory.{inventory_text}
use Rattle.pt_object.specs.Object.{content_file, stored_files, version_folder}
use Rattle.pt_object.specs.Script.{Item, MakeFolder, files_items, folders_above, item_in}
use Rattle.pt_object.specs.Scripts.{object_items, script_of_rows, staging}
use Rattle.pt_object.specs.declared.rows.Row.{Row}
use Rattle.pt_tree.specs.Path.{Path, rest_below}
use Rattle.pt_plan.specs.Job.{Job}
use Rattle.pt_plan.specs.Run.{Held}
use Rattle.pt_plan.specs.TurnMake.{is_stored}
use Rattle.pt_plan.specs.declared.object.Object.{Object}
use Rattle.pt_plan.specs.declared.phase.Part.{Part}
use Rattle.pt_plan.specs.declared.phase.Part.TheVariants as part
use Rattle.pt_plan.specs.declared.phase.Position.{Position}

-- ---- what is made

-- the files that are stored, with what they hold
abbrev pub contents_of : List Row → (Path → List ℕ) → List File
contents_of rows bytes = map content_file (stored_files rows bytes)

-- of the next file the folders that no earlier one needed, among the first so many on the way to it
abbrev pub folders_before : List File → ℕ → Option File → List Item
folders_before earlier number None = []
folders_before earlier number (Some file) =
    map MakeFolder
    (filter (λ folder. not (leads_to earlier folder)) (take number (folders_above file.0)))

-- the contents that are made at a position, and the folders of the next one
abbrev pub contents_before : List File → Position → List Item
contents_before files position =
    files_items [] (take position.stored files)
    ++ folders_before (take position.stored files) position.directories
    (slice_get files position.stored)

-- what is made of an object before a part of it, where these are its items and its contents
abbrev pub items_before : List Item → List File → Part → List Item
items_before items files part.Staging = []
items_before items files part.Declaration = take 1 items
items_before items files part.Version = take 2 items
items_before items files (part.Content position) =
    take 3 items ++ map (item_in version_folder) (contents_before files position)
items_before items files part.VersionInventory = take (3 + length (files_items [] files)) items
items_before items files part.VersionSidecar = take (4 + length (files_items [] files)) items
items_before items files part.Inventory = take (5 + length (files_items [] files)) items
items_before items files part.Sidecar = take (6 + length (files_items [] files)) items

-- in `staging`, before a part of the object with these rows, whose files hold this
abbrev pub made_before : Job → Object → List Row → (Path → List ℕ) → Part → List Item
made_before job object rows bytes here =
    map (item_in staging)
    (items_before
    (object_items job.algorithm (inventory_text object.id rows job.meta job.algorithm)
    (stored_files rows bytes)) (contents_of rows bytes) here)

-- all of it
abbrev pub script_of_object : Job → Object → List Row → (Path → List ℕ) → List Item
script_of_object job object rows bytes = script_of_rows object.id rows bytes job.meta job.algorithm

-- ---- where the run stands in the contents

-- where the contents are stored, from the version's folder on
abbrev pub content_paths : List Row → List Path
content_paths rows = map (λ row. codes "content" ∷ row.path) (distinct rows)

-- the folder is above one of these paths
abbrev pub is_above_one : List Path → Path → Bool
is_above_one paths folder = list_any (λ path. is_some (rest_below folder path)) paths

-- of the folders above the next of these paths none from this number on is above an earlier one
abbrev pub AreNewFrom : List Path → ℕ → Option Path → Type 0
AreNewFrom earlier number None = ⊤
AreNewFrom earlier number (Some path) =
    list_all (λ folder. not (is_above_one earlier folder)) (drop number (folders_above path)) ≡ true

-- the position is at a row, so many contents are stored as the rows before it have, and the folders still to be made for the next one are new
pub record IsAtRow (rows : List Row) (position : Position) : Type 0 where
  pub within : position.row < length rows
  pub stored : position.stored ≡ length (distinct (take position.row rows))
  pub new : AreNewFrom (take position.stored (content_paths rows)) position.directories
      (slice_get (content_paths rows) position.stored)

-- the row there is one that is stored, and all folders on the way to its content stand
pub record IsAtStoredRow (held : Held) (position : Position) : Type 0 where
  pub at : IsAtRow held.rows position
  pub row : Row
  pub is_row : slice_get held.rows position.row ≡ Some row
  pub next : is_stored held.contents position.stored row.path ≡ true
  pub stand : length row.path ≤ position.directories
