-- An object of one version, as a target tree.
use Rattle.std.specs.Prelude.{ℕ, List, [], ◌∷◌, ◌++◌, codes, find, length, map}
use Rattle.std.specs.Option.{option_map, unwrap_or}
use Rattle.pt_tree.specs.Path.{Path}
use Rattle.pt_tree.specs.Tree.{Tree}
use Rattle.pt_object.specs.Algorithm.{algorithm_word, digest_of}
use Rattle.pt_object.specs.Distinct.{distinct, row_has_digest}
use Rattle.pt_object.specs.FilePaths.{File}
use Rattle.pt_object.specs.Files.{object_declaration_bytes, sidecar_text}
use Rattle.pt_object.specs.Holding.{held_at, holding}
use Rattle.pt_object.specs.Inventory.{inventory_text}
use Rattle.pt_object.specs.MetaParts.{MetaParts}
use Rattle.pt_object.specs.Rows.{row_of}
use Rattle.pt_object.specs.declared.algorithm.Algorithm.{Algorithm}
use Rattle.pt_object.specs.declared.rows.Row.{Row}

-- the file as a row
abbrev pub row_of_file : Algorithm → File → Row
row_of_file algorithm file = row_of file.0 (digest_of algorithm file.1) (length file.1)

-- the rows of these files
abbrev pub rows_of : Algorithm → List File → List Row
rows_of algorithm files = map (row_of_file algorithm) files

-- what these files hold at a path
abbrev pub bytes_in : List File → Path → List ℕ
bytes_in files path = unwrap_or (held_at files path) []

-- the files that are stored: the distinct ones, with what is held at their paths
abbrev pub stored_files : List Row → (Path → List ℕ) → List File
stored_files rows held = map (λ row. (row.path, held row.path)) (distinct rows)

-- an inventory's name
abbrev pub inventory_name : List ℕ
inventory_name = codes "inventory.json"

-- the name of its sidecar (OCFL 1.1, "Inventory Digest")
abbrev pub sidecar_name : Algorithm → List ℕ
sidecar_name algorithm = codes "inventory.json." ++ algorithm_word algorithm

-- the name of an object's declaration
abbrev pub object_declaration_name : List ℕ
object_declaration_name = codes "0=ocfl_object_1.1"

-- the folder of the version
abbrev pub version_folder : Path
version_folder = codes "v1" ∷ []

-- where the content of a logical path is stored, or a folder on the way to it (OCFL 1.1, "Content Directory")
abbrev pub in_content : Path → Path
in_content path = version_folder ++ codes "content" ∷ path

-- a stored file below the version's folder
abbrev pub content_file : File → File
content_file file = (codes "content" ∷ file.0, file.1)

-- a file below a folder
abbrev pub file_in : Path → File → File
file_in folder file = (folder ++ file.0, file.1)

-- the inventory and its sidecar in a folder
abbrev pub inventory_files : Path → Algorithm → List ℕ → List File
inventory_files folder algorithm text = (folder ++ inventory_name ∷ [], text)
    ∷ (folder ++ sidecar_name algorithm ∷ [], sidecar_text algorithm text) ∷ []

-- all files of the object with this inventory: the declaration, the stored files, the inventory and its sidecar in the version's folder and at the top
abbrev pub object_files : Algorithm → List ℕ → List File → List File
object_files algorithm text stored =
    (object_declaration_name ∷ [], object_declaration_bytes)
    ∷ (map (file_in version_folder) (map content_file stored)
    ++ (inventory_files version_folder algorithm text ++ inventory_files [] algorithm text))

-- the object with this identifier and these rows, where this is held at the stored paths
abbrev pub object_of_rows : List ℕ → List Row → (Path → List ℕ) → MetaParts → Algorithm → Tree
object_of_rows id rows held meta algorithm =
    holding (object_files algorithm (inventory_text id rows meta algorithm)
    (stored_files rows held))

-- the object with this identifier and these files: its declaration, each distinct file at `v1/content/` and its path, the inventory and its sidecar
-- in `v1` and at the top, and the folders above them (OCFL 1.1, "Object Structure", "Content Directory")
abbrev pub object_of : List ℕ → List File → MetaParts → Algorithm → Tree
object_of id files meta algorithm =
    object_of_rows id (rows_of algorithm files) (bytes_in files) meta algorithm

-- where the content of a row is stored: at the path of the first row with its digest
abbrev pub stored_path : List Row → Row → Path
stored_path rows row =
    unwrap_or (option_map (λ first. first.path) (find (row_has_digest row.digest) rows)) row.path

-- the files of the rows, where this is held at the stored paths
abbrev pub files_of_rows : List Row → (Path → List ℕ) → List File
files_of_rows rows held = map (λ row. (row.path, held (stored_path rows row))) rows
