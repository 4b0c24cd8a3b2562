-- The three files of a storage root.
use Rattle.std.specs.Prelude.{ℕ, List, [], ◌∷◌, ◌++◌, codes, decimal, Option, None, Some}
use denote.Ref.{Bor}
use Rattle.serde_json.specs.Data.{Data, string, number, unsigned, object, member, no_members}
use Rattle.pt_tree.specs.Path.{Path}
use Rattle.pt_name.specs.Tuples.{Tuples}
use Rattle.pt_object.specs.Files.{root_declaration_bytes}

-- the extension that says where objects lie
abbrev pub extension_name : List ℕ
extension_name = codes "0003-hash-and-id-n-tuple-storage-layout"

-- what `ocfl_layout.json` holds
abbrev pub layout_text : List ℕ
layout_text = codes
    "{\"description\":\"SHA-256 of the identifier in tuples, then the encoded identifier\",\"extension\":\"0003-hash-and-id-n-tuple-storage-layout\"}"

-- the extension's configuration, for tuples of this size and number
abbrev pub config_tree : ℕ → ℕ → Data
config_tree size count = object
    (member (codes "digestAlgorithm") (string (codes "sha256"))
    (member (codes "extensionName") (string extension_name)
    (member (codes "numberOfTuples") (number (unsigned count))
    (member (codes "tupleSize") (number (unsigned size)) no_members))))

-- what the extension's `config.json` holds
abbrev pub config_text : Tuples → List ℕ
config_text tuples =
    codes "{\"digestAlgorithm\":\"sha256\",\"extensionName\":\"0003-hash-and-id-n-tuple-storage-layout\",\"numberOfTuples\":"
    ++ (decimal tuples.count ++ (codes ",\"tupleSize\":" ++ (decimal tuples.size ++ codes "}")))

-- where the root's declaration lies in it
abbrev pub declaration_at : Path
declaration_at = codes "0=ocfl_1.1" ∷ []

-- the layout's description
abbrev pub layout_at : Path
layout_at = codes "ocfl_layout.json" ∷ []

-- and the extension's configuration
abbrev pub config_at : Path
config_at = codes "extensions" ∷ extension_name ∷ codes "config.json" ∷ []

-- the files' paths and bytes: the declaration, the layout's description, the extension's configuration
abbrev pub root_files_of : Tuples → List (Path × List ℕ)
root_files_of tuples =
    (declaration_at, root_declaration_bytes)
    ∷ (layout_at, layout_text)
    ∷ (config_at, config_text tuples)
    ∷ []

-- the file that is lent
abbrev pub files_lent : Option (Bor Path × Bor (List ℕ)) → Option (Path × List ℕ)
files_lent None = None
files_lent (Some x) = Some (x.0.now, x.1.now)
