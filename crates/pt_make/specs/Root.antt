-- What the functions of a storage root ask.
use Rattle.std.specs.Prelude.{◌≡◌, ◌<◌, ◌==◌, ℕ, cond, codes, List, [], ◌∷◌, ◌++◌, Some, slice_get}
use Rattle.pt_name.specs.Tuples.{Tuples}
use Rattle.pt_object.specs.RootFiles.{config_at, extension_name, root_files_of}
use Rattle.pt_plan.specs.RootNumbers.{configuration_number, root_file_count, root_item_count}
use Rattle.pt_plan.specs.Roots.{storage_root}
use Rattle.pt_tree.specs.Path.{Path}
use Rattle.pt_object.specs.Script.{Item}
use Rattle.pt_object.specs.Scripts.{root_script}

-- the root's script has this item there
unfoldable pub IsRootItem : Tuples → ℕ → Item → Type 0
IsRootItem tuples number item = slice_get (root_script tuples) number ≡ Some item

-- and there is one of this number
pub record IsItemAt (tuples : Tuples) (number : ℕ) (item : Item) : Type 0 where
  pub few : number < root_item_count
  pub is : IsRootItem tuples number item

-- the file of this number, at this path of the destination, is to hold these bytes
unfoldable pub IsRootFile : Tuples → ℕ → Path → List ℕ → Type 0
IsRootFile tuples number whole bytes = (path : Path)
    × ((whole ≡ storage_root ++ path)
    × (slice_get (root_files_of tuples) number ≡ Some (path, bytes)))

-- and there is one of this number
pub record IsFileAt (tuples : Tuples) (number : ℕ) (whole : Path) (bytes : List ℕ) : Type 0 where
  pub few : number < root_file_count
  pub is : IsRootFile tuples number whole bytes

-- the folder of the destination in which the extensions lie
abbrev pub outer_folder : Path
outer_folder = storage_root ++ codes "extensions" ∷ []

-- and in it the one in which the layout's configuration lies
abbrev pub inner_folder : Path
inner_folder = outer_folder ++ extension_name ∷ []

-- and the configuration's own path
abbrev pub configuration : Path
configuration = storage_root ++ config_at

-- how often the destination is asked at most as a file of the root is compared: for its kind and its bytes, and, of the configuration, for the
-- two folders that it lies in
abbrev pub looks_at_file : ℕ → ℕ
looks_at_file file = cond (file == configuration_number) 4 2
