-- The scripts of a storage root and of an object, both made in `staging`.
use Rattle.std.specs.Prelude.{◌≡◌, ℕ, List, [], ◌∷◌, ◌++◌, codes, map, Some}
use Rattle.pt_tree.specs.Path.{Path}
use Rattle.pt_tree.specs.Tree.{Tree, Folder}
use Rattle.pt_name.specs.Tuples.{Tuples}
use Rattle.pt_object.specs.FilePaths.{File}
use Rattle.pt_object.specs.Files.{object_declaration_bytes, root_declaration_bytes, sidecar_text}
use Rattle.pt_object.specs.Holding.{IsFree}
use Rattle.pt_object.specs.Inventory.{inventory_text}
use Rattle.pt_object.specs.MetaParts.{MetaParts}
use Rattle.pt_object.specs.Object.{bytes_in, content_file, inventory_name, object_declaration_name, rows_of, sidecar_name, stored_files, version_folder}
use Rattle.pt_object.specs.RootFiles.{config_text, extension_name, layout_text}
use Rattle.pt_object.specs.Script.{Item, MakeFolder, MakeFile, files_items, item_in}
use Rattle.pt_object.specs.declared.algorithm.Algorithm.{Algorithm}
use Rattle.pt_object.specs.declared.rows.Row.{Row}

-- where both are made
abbrev pub staging : Path
staging = codes "staging" ∷ []

-- a destination in which staging can be made: its top is a folder, and nothing stands at or below staging
pub record IsFresh (t : Tree) : Type 0 where
  pub top : t [] ≡ Some Folder
  pub free : IsFree t staging

-- what is made of a root, below staging
abbrev pub root_items : Tuples → List Item
root_items tuples =
    MakeFolder []
    ∷ MakeFolder (codes "extensions" ∷ [])
    ∷ MakeFolder (codes "extensions" ∷ extension_name ∷ [])
    ∷ MakeFile (codes "extensions" ∷ extension_name ∷ codes "config.json" ∷ []) (config_text tuples)
    ∷ MakeFile (codes "ocfl_layout.json" ∷ []) layout_text
    ∷ MakeFile (codes "0=ocfl_1.1" ∷ []) root_declaration_bytes
    ∷ []

-- the script of a root
abbrev pub root_script : Tuples → List Item
root_script tuples = map (item_in staging) (root_items tuples)

-- what is made of an object, below staging
abbrev pub object_items : Algorithm → List ℕ → List File → List Item
object_items algorithm text stored =
    MakeFolder []
    ∷ MakeFile (object_declaration_name ∷ []) object_declaration_bytes
    ∷ MakeFolder version_folder
    ∷ (map (item_in version_folder) (files_items [] (map content_file stored))
    ++ MakeFile (version_folder ++ inventory_name ∷ []) text
    ∷ MakeFile (version_folder ++ sidecar_name algorithm ∷ []) (sidecar_text algorithm text)
    ∷ MakeFile (inventory_name ∷ []) text
    ∷ MakeFile (sidecar_name algorithm ∷ []) (sidecar_text algorithm text)
    ∷ [])

-- the script of the object with this identifier and these rows, where this is held at the stored paths
abbrev pub script_of_rows : List ℕ → List Row → (Path → List ℕ) → MetaParts → Algorithm → List Item
script_of_rows id rows held meta algorithm =
    map (item_in staging)
    (object_items algorithm (inventory_text id rows meta algorithm) (stored_files rows held))

-- the script of the object with this identifier and these files: for each stored file in order the folders of its content path that no earlier one
-- needed, outermost first, then the file; then inventory and sidecar of `v1`, then the object's own
abbrev pub script_of : List ℕ → List File → MetaParts → Algorithm → List Item
script_of id files meta algorithm =
    script_of_rows id (rows_of algorithm files) (bytes_in files) meta algorithm
