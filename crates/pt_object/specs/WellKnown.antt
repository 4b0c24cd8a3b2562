-- The names that a run knows beforehand: each is a name.
use Rattle.std.specs.Prelude.{◌≡◌, ℕ, List, codes, true, refl}
use Rattle.std.specs.Str.{chars, is_utf8}
use Rattle.std.proofs.Math.Utf8.{encode}
use Rattle.pt_object.specs.declared.well_known.WellKnownName.{WellKnownName}
use Rattle.pt_object.specs.declared.well_known.WellKnownName.TheVariants as known
use Rattle.pt_tree.specs.Name.{is_name}

-- the text of a well-known name
abbrev pub known_text : WellKnownName → List ℕ
known_text known.VersionFile = codes "pairtree_version0_1"
known_text known.PrefixFile = codes "pairtree_prefix"
known_text known.PairtreeRoot = codes "pairtree_root"
known_text known.StorageRoot = codes "ocfl"
known_text known.Staging = codes "staging"
known_text known.Extensions = codes "extensions"
known_text known.Extension = codes "0003-hash-and-id-n-tuple-storage-layout"
known_text known.Configuration = codes "config.json"
known_text known.RootDeclaration = codes "0=ocfl_1.1"
known_text known.LayoutFile = codes "ocfl_layout.json"
known_text known.Declaration = codes "0=ocfl_object_1.1"
known_text known.Version = codes "v1"
known_text known.Content = codes "content"
known_text known.Inventory = codes "inventory.json"
known_text known.Sha512Sidecar = codes "inventory.json.sha512"
known_text known.Sha256Sidecar = codes "inventory.json.sha256"

-- which is a name
pub known_is_name : (k : WellKnownName) → is_name (known_text k) ≡ true
unfolding is_utf8 chars encode
known_is_name known.VersionFile = refl
known_is_name known.PrefixFile = refl
known_is_name known.PairtreeRoot = refl
known_is_name known.StorageRoot = refl
known_is_name known.Staging = refl
known_is_name known.Extensions = refl
known_is_name known.Extension = refl
known_is_name known.Configuration = refl
known_is_name known.RootDeclaration = refl
known_is_name known.LayoutFile = refl
known_is_name known.Declaration = refl
known_is_name known.Version = refl
known_is_name known.Content = refl
known_is_name known.Inventory = refl
known_is_name known.Sha512Sidecar = refl
known_is_name known.Sha256Sidecar = refl
