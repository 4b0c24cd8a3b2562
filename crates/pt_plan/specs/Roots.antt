-- A destination with its storage root, and folders made in a root.
use Rattle.std.specs.Prelude.{◌++◌, List, [], ◌∷◌, codes}
use Rattle.std.specs.List.{list_any}
use Rattle.std.specs.Option.{option_or}
use Rattle.pt_object.specs.Holding.{placed}
use Rattle.pt_object.specs.Script.{folders_above}
use Rattle.pt_tree.specs.Path.{Path, same_path}
use Rattle.pt_tree.specs.Tree.{Tree}
use Rattle.pt_plan.specs.Carried.{Carried, folder_where, place_of_carried}
use Rattle.pt_plan.specs.Job.{Job}

-- where the storage root stands in a destination
abbrev pub storage_root : Path
storage_root = codes "ocfl" ∷ []

-- the storage root of a destination, seen from its own top on
abbrev pub root_in : Tree → Tree
root_in t = λ path. t (storage_root ++ path)

-- a destination with this storage root in place of its own
abbrev pub with_root : Tree → Tree → Tree
with_root t root = placed t storage_root root

-- with a folder at each of these paths where nothing stands
abbrev pub with_folders : List Path → Tree → Tree
with_folders folders t = λ path. option_or (t path) (folder_where (list_any (same_path path) folders))

-- the tuple directories on the way to the object's place, outermost first (extension 0003)
abbrev pub tuple_folders : Job → Carried → List Path
tuple_folders job object = folders_above (place_of_carried job object)
