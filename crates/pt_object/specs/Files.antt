-- The bytes of the files beside an object's contents and its inventory.
use Rattle.std.specs.Prelude.{ℕ, List, ◌++◌, codes}
use Rattle.hex.specs.Hex.{encode_lower}
use Rattle.pt_object.specs.Algorithm.{digest_of}
use Rattle.pt_object.specs.declared.algorithm.Algorithm.{Algorithm}

-- an object's declaration (OCFL 1.1, "Object Conformance Declaration")
abbrev pub object_declaration_bytes : List ℕ
object_declaration_bytes = codes "ocfl_object_1.1\n"

-- a storage root's declaration (OCFL 1.1, "Root Conformance Declaration")
abbrev pub root_declaration_bytes : List ℕ
root_declaration_bytes = codes "ocfl_1.1\n"

-- the digest of an inventory in hex, a space, the inventory's name and LF
abbrev pub sidecar_line : List ℕ → List ℕ
sidecar_line digest = encode_lower digest ++ codes " inventory.json\n"

-- the sidecar of the inventory with this text
abbrev pub sidecar_text : Algorithm → List ℕ → List ℕ
sidecar_text algorithm text = sidecar_line (digest_of algorithm text)
