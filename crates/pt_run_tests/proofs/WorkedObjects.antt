-- The worked objects, computed.
use Rattle.std.proofs.Common.{◌≡◌, ℕ, List, [], ◌∷◌, refl, ◌∙◌, ap}
use Rattle.std.specs.Prelude.{codes, map}
use Rattle.std.specs.Fmt.{digits}
use Rattle.hex.specs.Hex.{encode_with}
use Rattle.serde_json.proofs.OnLiterals.{serde_json_on_literals}
use Rattle.sha2.specs.Sha512.{compress, digest_bytes, first_words, hash_after, rounds, schedule, sha512}
use Rattle.sha2.proofs.Facts512.{digest_of_abc_512}
use Rattle.pt_object.specs.Files.{sidecar_text}
use Rattle.pt_object.specs.Inventory.{inventory_text}
use Rattle.pt_object.specs.Object.{bytes_in, object_files, rows_of, stored_files}
use Rattle.pt_object.specs.Rows.{row_of}
use Rattle.pt_object.specs.Script.{MakeFile, MakeFolder, item_in}
use Rattle.pt_object.specs.Scripts.{object_items, staging}
use Rattle.pt_run_tests.specs.WorkedObjects.{
  EqualContentsPaths,
  FourFilesStored,
  NoFilesPaths,
  OneFileObject,
  OneFileScript,
  RootStands,
  SharedFolders,
  one_file,
  one_file_inventory,
  one_file_sidecar,
  worked_meta,
}
use Rattle.pt_object.specs.declared.algorithm.Algorithm.TheVariants.{Sha512}
use Rattle.pt_object.specs.declared.rows.Row.{Row}

abbrev digest_of_abc : List ℕ
digest_of_abc = 221 ∷ 175 ∷ 53 ∷ 161 ∷ 147 ∷ 97 ∷ 122 ∷ 186 ∷ 204 ∷ 65 ∷ 115 ∷ 73 ∷ 174 ∷ 32 ∷ 65 ∷ 49 ∷ 18 ∷ 230 ∷ 250 ∷ 78 ∷ 137 ∷ 169 ∷ 126 ∷ 162 ∷ 10 ∷ 158
    ∷ 238 ∷ 230 ∷ 75 ∷ 85 ∷ 211 ∷ 154 ∷ 33 ∷ 146 ∷ 153 ∷ 42 ∷ 39 ∷ 79 ∷ 193 ∷ 168 ∷ 54 ∷ 186 ∷ 60 ∷ 35 ∷ 163 ∷ 254 ∷ 235 ∷ 189 ∷ 69 ∷ 77 ∷ 68 ∷ 35 ∷ 100 ∷ 60
    ∷ 232 ∷ 14 ∷ 42 ∷ 154 ∷ 201 ∷ 79 ∷ 165 ∷ 76 ∷ 164 ∷ 159 ∷ []

one_row : rows_of Sha512 one_file ≡ row_of (codes "a.txt" ∷ []) digest_of_abc 3 ∷ []
one_row = ap (λ (d : List ℕ). row_of (codes "a.txt" ∷ []) d 3 ∷ []) digest_of_abc_512

inventory_computed : inventory_text (codes "abc") (row_of (codes "a.txt" ∷ []) digest_of_abc 3 ∷ []) worked_meta Sha512 ≡ one_file_inventory
unfolding serde_json_on_literals encode_with
inventory_computed = refl

sidecar_computed : sidecar_text Sha512 one_file_inventory ≡ one_file_sidecar
unfolding first_words schedule rounds compress hash_after digest_bytes sha512 encode_with
sidecar_computed = refl

text_computed : inventory_text (codes "abc") (rows_of Sha512 one_file) worked_meta Sha512 ≡ one_file_inventory
text_computed = ap (λ (rows : List Row). inventory_text (codes "abc") rows worked_meta Sha512) one_row ∙ inventory_computed

pub one_file_object : OneFileObject
one_file_object =
    ap (λ (text : List ℕ). object_files Sha512 text (stored_files (rows_of Sha512 one_file) (bytes_in one_file))) text_computed
    ∙ ap (λ (side : List ℕ).
    (codes "0=ocfl_object_1.1" ∷ [], codes "ocfl_object_1.1\n")
    ∷ (codes "v1" ∷ codes "content" ∷ codes "a.txt" ∷ [], codes "abc")
    ∷ (codes "v1" ∷ codes "inventory.json" ∷ [], one_file_inventory)
    ∷ (codes "v1" ∷ codes "inventory.json.sha512" ∷ [], side)
    ∷ (codes "inventory.json" ∷ [], one_file_inventory)
    ∷ (codes "inventory.json.sha512" ∷ [], side)
    ∷ []) sidecar_computed

pub one_file_script : OneFileScript
one_file_script =
    ap (λ (text : List ℕ). map (item_in staging) (object_items Sha512 text (stored_files (rows_of Sha512 one_file) (bytes_in one_file)))) text_computed
    ∙ ap (λ (side : List ℕ).
    MakeFolder (codes "staging" ∷ [])
    ∷ MakeFile (codes "staging" ∷ codes "0=ocfl_object_1.1" ∷ []) (codes "ocfl_object_1.1\n")
    ∷ MakeFolder (codes "staging" ∷ codes "v1" ∷ [])
    ∷ MakeFolder (codes "staging" ∷ codes "v1" ∷ codes "content" ∷ [])
    ∷ MakeFile (codes "staging" ∷ codes "v1" ∷ codes "content" ∷ codes "a.txt" ∷ []) (codes "abc")
    ∷ MakeFile (codes "staging" ∷ codes "v1" ∷ codes "inventory.json" ∷ []) one_file_inventory
    ∷ MakeFile (codes "staging" ∷ codes "v1" ∷ codes "inventory.json.sha512" ∷ []) side
    ∷ MakeFile (codes "staging" ∷ codes "inventory.json" ∷ []) one_file_inventory
    ∷ MakeFile (codes "staging" ∷ codes "inventory.json.sha512" ∷ []) side
    ∷ []) sidecar_computed

pub equal_contents_paths : EqualContentsPaths
equal_contents_paths held = refl

pub no_files_paths : NoFilesPaths
no_files_paths = refl

pub four_files_stored : FourFilesStored
four_files_stored held = refl

pub shared_folders : SharedFolders
shared_folders held = refl

pub root_stands : RootStands
unfolding digits
root_stands = (refl, refl, refl, refl, refl)
