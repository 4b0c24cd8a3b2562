-- The worked objects, with their paths, bytes and items written out.
use Rattle.std.specs.Prelude.{◌≡◌, ℕ, List, [], ◌∷◌, codes, drop, map, take, None, Some}
use Rattle.pt_tree.specs.Path.{Path}
use Rattle.pt_tree.specs.Tree.{Bytes, Folder, Tree}
use Rattle.pt_object.specs.FilePaths.{File}
use Rattle.pt_object.specs.Inventory.{inventory_text}
use Rattle.pt_object.specs.MetaParts.{MetaParts}
use Rattle.pt_object.specs.Object.{bytes_in, object_files, rows_of, stored_files}
use Rattle.pt_object.specs.Rows.{row_of}
use Rattle.pt_object.specs.Root.{root_of}
use Rattle.pt_object.specs.Script.{Item, MakeFile, MakeFolder, item_path}
use Rattle.pt_object.specs.Scripts.{script_of, script_of_rows}
use Rattle.pt_object.specs.declared.algorithm.Algorithm.TheVariants.{Sha256, Sha512}

-- the description of the worked versions
abbrev pub worked_meta : MetaParts
worked_meta = record
    { created = codes "2024-05-01T12:00:00Z"; name = codes "Ada"; address = None; message = codes "Migrated from Pairtree" }

-- the store of one object: the file `a.txt` with the bytes `abc`
abbrev pub one_file : List File
one_file = (codes "a.txt" ∷ [], codes "abc") ∷ []

-- the inventory of the object of one file
abbrev pub one_file_inventory : List ℕ
one_file_inventory =
    codes "{\"digestAlgorithm\":\"sha512\",\"head\":\"v1\",\"id\":\"abc\",\"manifest\":{\"ddaf35a193617abacc417349ae20413112e6fa4e89a97ea20a9eeee64b55d39a2192992a274fc1a836ba3c23a3feebbd454d4423643ce80e2a9ac94fa54ca49f\":[\"v1/content/a.txt\"]},\"type\":\"https://ocfl.io/1.1/spec/#inventory\",\"versions\":{\"v1\":{\"created\":\"2024-05-01T12:00:00Z\",\"message\":\"Migrated from Pairtree\",\"state\":{\"ddaf35a193617abacc417349ae20413112e6fa4e89a97ea20a9eeee64b55d39a2192992a274fc1a836ba3c23a3feebbd454d4423643ce80e2a9ac94fa54ca49f\":[\"a.txt\"]},\"user\":{\"name\":\"Ada\"}}}}"

-- its sidecar
abbrev pub one_file_sidecar : List ℕ
one_file_sidecar = codes "1eb21c66539478d2c419e0d996719da1e26c4c3d1ae2836137bbb99f412ba2fa2877b301344d7d7303197c96be4dbc6520706609ea235ea04f41f4f087a2d28c inventory.json\n"

-- the files of its object
abbrev pub OneFileObject : Type 0
OneFileObject =
    object_files Sha512 (inventory_text (codes "abc") (rows_of Sha512 one_file) worked_meta Sha512)
    (stored_files (rows_of Sha512 one_file) (bytes_in one_file))
    ≡ (codes "0=ocfl_object_1.1" ∷ [], codes "ocfl_object_1.1\n")
    ∷ (codes "v1" ∷ codes "content" ∷ codes "a.txt" ∷ [], codes "abc")
    ∷ (codes "v1" ∷ codes "inventory.json" ∷ [], one_file_inventory)
    ∷ (codes "v1" ∷ codes "inventory.json.sha512" ∷ [], one_file_sidecar)
    ∷ (codes "inventory.json" ∷ [], one_file_inventory)
    ∷ (codes "inventory.json.sha512" ∷ [], one_file_sidecar)
    ∷ []

-- and its script
abbrev pub OneFileScript : Type 0
OneFileScript =
    script_of (codes "abc") one_file worked_meta Sha512
    ≡ MakeFolder (codes "staging" ∷ [])
    ∷ MakeFile (codes "staging" ∷ codes "0=ocfl_object_1.1" ∷ []) (codes "ocfl_object_1.1\n")
    ∷ MakeFolder (codes "staging" ∷ codes "v1" ∷ [])
    ∷ MakeFolder (codes "staging" ∷ codes "v1" ∷ codes "content" ∷ [])
    ∷ MakeFile (codes "staging" ∷ codes "v1" ∷ codes "content" ∷ codes "a.txt" ∷ []) (codes "abc")
    ∷ MakeFile (codes "staging" ∷ codes "v1" ∷ codes "inventory.json" ∷ []) one_file_inventory
    ∷ MakeFile (codes "staging" ∷ codes "v1" ∷ codes "inventory.json.sha512" ∷ []) one_file_sidecar
    ∷ MakeFile (codes "staging" ∷ codes "inventory.json" ∷ []) one_file_inventory
    ∷ MakeFile (codes "staging" ∷ codes "inventory.json.sha512" ∷ []) one_file_sidecar
    ∷ []

-- of a script the paths alone
abbrev pub paths_made : List Item → List Path
paths_made script = map item_path script

-- equal contents in two folders, and an empty file: the second of the equal ones makes nothing
abbrev pub EqualContentsPaths : Type 0
EqualContentsPaths =
    (held : Path → List ℕ)
    → paths_made
    (script_of_rows (codes "abcd")
    (row_of (codes "a" ∷ codes "x" ∷ []) (1 ∷ []) 3 ∷ row_of (codes "a.txt" ∷ []) (1 ∷ []) 3
    ∷ row_of (codes "c" ∷ []) (2 ∷ []) 0 ∷ []) held worked_meta Sha512)
    ≡ (codes "staging" ∷ [])
    ∷ (codes "staging" ∷ codes "0=ocfl_object_1.1" ∷ [])
    ∷ (codes "staging" ∷ codes "v1" ∷ [])
    ∷ (codes "staging" ∷ codes "v1" ∷ codes "content" ∷ [])
    ∷ (codes "staging" ∷ codes "v1" ∷ codes "content" ∷ codes "a" ∷ [])
    ∷ (codes "staging" ∷ codes "v1" ∷ codes "content" ∷ codes "a" ∷ codes "x" ∷ [])
    ∷ (codes "staging" ∷ codes "v1" ∷ codes "content" ∷ codes "c" ∷ [])
    ∷ (codes "staging" ∷ codes "v1" ∷ codes "inventory.json" ∷ [])
    ∷ (codes "staging" ∷ codes "v1" ∷ codes "inventory.json.sha512" ∷ [])
    ∷ (codes "staging" ∷ codes "inventory.json" ∷ [])
    ∷ (codes "staging" ∷ codes "inventory.json.sha512" ∷ [])
    ∷ []

-- an object without files has no content folder
abbrev pub NoFilesPaths : Type 0
NoFilesPaths =
    paths_made (script_of (codes "abc") [] worked_meta Sha256)
    ≡ (codes "staging" ∷ [])
    ∷ (codes "staging" ∷ codes "0=ocfl_object_1.1" ∷ [])
    ∷ (codes "staging" ∷ codes "v1" ∷ [])
    ∷ (codes "staging" ∷ codes "v1" ∷ codes "inventory.json" ∷ [])
    ∷ (codes "staging" ∷ codes "v1" ∷ codes "inventory.json.sha256" ∷ [])
    ∷ (codes "staging" ∷ codes "inventory.json" ∷ [])
    ∷ (codes "staging" ∷ codes "inventory.json.sha256" ∷ [])
    ∷ []

-- four files of different contents are stored with what is held at their paths
abbrev pub FourFilesStored : Type 0
FourFilesStored =
    (held : Path → List ℕ)
    → stored_files
    (row_of (codes "f0" ∷ []) (0 ∷ []) 0 ∷ row_of (codes "f1" ∷ []) (1 ∷ []) 8191
    ∷ row_of (codes "f2" ∷ []) (2 ∷ []) 8192 ∷ row_of (codes "f3" ∷ []) (3 ∷ []) 8193 ∷ []) held
    ≡ (codes "f0" ∷ [], held (codes "f0" ∷ []))
    ∷ (codes "f1" ∷ [], held (codes "f1" ∷ []))
    ∷ (codes "f2" ∷ [], held (codes "f2" ∷ []))
    ∷ (codes "f3" ∷ [], held (codes "f3" ∷ []))
    ∷ []

-- folders that earlier files needed aren't made again, and a folder comes before those in it
abbrev pub SharedFolders : Type 0
SharedFolders =
    (held : Path → List ℕ)
    → drop 3 (take 11 (paths_made (script_of_rows (codes "abc")
    (row_of (codes "a" ∷ codes "b" ∷ codes "c" ∷ []) (1 ∷ []) 3
    ∷ row_of (codes "a" ∷ codes "b" ∷ codes "d" ∷ []) (2 ∷ []) 3
    ∷ row_of (codes "a" ∷ codes "e" ∷ codes "f" ∷ []) (3 ∷ []) 3
    ∷ row_of (codes "z" ∷ []) (4 ∷ []) 3 ∷ [])
    held worked_meta Sha512)))
    ≡ (codes "staging" ∷ codes "v1" ∷ codes "content" ∷ [])
    ∷ (codes "staging" ∷ codes "v1" ∷ codes "content" ∷ codes "a" ∷ [])
    ∷ (codes "staging" ∷ codes "v1" ∷ codes "content" ∷ codes "a" ∷ codes "b" ∷ [])
    ∷ (codes "staging" ∷ codes "v1" ∷ codes "content" ∷ codes "a" ∷ codes "b" ∷ codes "c" ∷ [])
    ∷ (codes "staging" ∷ codes "v1" ∷ codes "content" ∷ codes "a" ∷ codes "b" ∷ codes "d" ∷ [])
    ∷ (codes "staging" ∷ codes "v1" ∷ codes "content" ∷ codes "a" ∷ codes "e" ∷ [])
    ∷ (codes "staging" ∷ codes "v1" ∷ codes "content" ∷ codes "a" ∷ codes "e" ∷ codes "f" ∷ [])
    ∷ (codes "staging" ∷ codes "v1" ∷ codes "content" ∷ codes "z" ∷ [])
    ∷ []

-- the root's three files stand where they should, with the folders above one of them, and nothing else does
abbrev pub StandsAsRoot : Tree → Type 0
StandsAsRoot root =
    (root (codes "0=ocfl_1.1" ∷ []) ≡ Some (Bytes (codes "ocfl_1.1\n")))
    × (root (codes "extensions" ∷ []) ≡ Some Folder)
    × (root (codes "extensions" ∷ codes "0003-hash-and-id-n-tuple-storage-layout" ∷ []) ≡ Some Folder)
    × (root (codes "extensions" ∷ codes "0003-hash-and-id-n-tuple-storage-layout" ∷ codes "config.json" ∷ [])
    ≡ Some (Bytes
    (codes "{\"digestAlgorithm\":\"sha256\",\"extensionName\":\"0003-hash-and-id-n-tuple-storage-layout\",\"numberOfTuples\":3,\"tupleSize\":3}")))
    × (root (codes "staging" ∷ []) ≡ None)

-- a root of three tuples of three digits stands
abbrev pub RootStands : Type 0
RootStands = StandsAsRoot (root_of (record { size = 3; count = 3 }))
