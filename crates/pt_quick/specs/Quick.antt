-- What a quick audit finds of an object: whether just the object stands at its place, with some digests of its files.
use Rattle.std.specs.Prelude.{◌≡◌, ◌↔◌, ℕ, All, List, [], ◌++◌, Option, None, Some, map, true}
use Rattle.std.specs.Option.{ForSome}
use Rattle.std.specs.Str.{IsUtf8}
use Rattle.pt_compare.specs.Found.{IsFound, IsObject, Sought, version_inventory}
use Rattle.pt_compare.specs.Marks.{inside}
use Rattle.pt_compare.specs.declared.difference.Comparison.{Comparison}
use Rattle.pt_compare.specs.declared.difference.Comparison.TheVariants.{Absent, Same}
use Rattle.pt_compare.specs.declared.scanned.ScannedObject.{ScannedObject}
use Rattle.pt_object.specs.Algorithm.{digest_of}
use Rattle.pt_object.specs.Distinct.{content_of_row, distinct}
use Rattle.pt_object.specs.FilePaths.{row_paths}
use Rattle.pt_object.specs.HexDigest.{IsDigest}
use Rattle.pt_object.specs.Inventory.{inventory_text}
use Rattle.pt_object.specs.Object.{stored_files}
use Rattle.pt_object.specs.declared.algorithm.Algorithm.{Algorithm}
use Rattle.pt_object.specs.declared.rows.Row.{Row}
use Rattle.pt_quick.specs.Claimed.{claimed_in}
use Rattle.pt_quick.specs.ReadAlike.{HasRead, ReadAlike}
use Rattle.pt_tree.specs.Forest.{Forest}
use Rattle.pt_tree.specs.Path.{Path}
use Rattle.pt_tree.specs.Name.{AreNames}
use Rattle.pt_tree.specs.PathOrder.{part_in_order}
use Rattle.pt_tree.specs.Tree.{Bytes, Tree, tree_of}
use Rattle.pt_walk.specs.Left.{bytes_at}

-- the object that is sought where these are its rows, of this identifier, and these the bytes of its files
abbrev pub sought_by : Algorithm → List ℕ → List Row → (Path → List ℕ) → Sought
sought_by algorithm id rows bytes = record {
  algorithm = algorithm;
  text_with = λ meta. inventory_text id rows meta algorithm;
  stored = stored_files rows bytes;
}

-- each digest is one of the algorithm
abbrev pub HaveDigests : Algorithm → List Row → Type 0
HaveDigests algorithm rows = All (λ row. IsDigest algorithm row.digest) rows

-- the digest of what is read at each path
abbrev pub read_digest : Algorithm → (Path → List ℕ) → Path → List ℕ
read_digest algorithm bytes path = digest_of algorithm (bytes path)

-- with their digests these could be the rows of an object with these logical paths and bytes
pub record CouldBe (algorithm : Algorithm) (paths : List Path) (bytes : Path → List ℕ) (rows : List Row) : Type 0 where
  pub paths_are : row_paths rows ≡ paths
  pub digests : HaveDigests algorithm rows
  pub alike : ReadAlike (read_digest algorithm bytes) rows

-- just the object with these logical paths and bytes stands there, if its files have some digests
pub record IsAlikeOf (algorithm : Algorithm) (id : List ℕ) (paths : List Path) (bytes : Path → List ℕ)
    (t : Tree) : Type 0 where
  pub rows : List Row
  pub could : CouldBe algorithm paths bytes rows
  pub stands : IsObject (sought_by algorithm id rows bytes) t

-- with some digests of its files this is found
pub record IsFoundWith (algorithm : Algorithm) (id : List ℕ) (paths : List Path) (bytes : Path → List ℕ)
    (t : Tree) (finding : Comparison) : Type 0 where
  pub rows : List Row
  pub could : CouldBe algorithm paths bytes rows
  pub found : IsFound (sought_by algorithm id rows bytes) t finding

-- what is found: `Same` just where the object is alike, `Absent` just where nothing stands, and else what differs, with some digests
pub record IsQuickOf (algorithm : Algorithm) (id : List ℕ) (paths : List Path) (bytes : Path → List ℕ)
    (t : Tree) (finding : Comparison) : Type 0 where
  pub same : (finding ≡ Same) ↔ IsAlikeOf algorithm id paths bytes t
  pub absent : (finding ≡ Absent) ↔ (t [] ≡ None)
  pub found : IsFoundWith algorithm id paths bytes t finding

-- the bytes of an object's files, of a store whose source's tree this is
abbrev pub source_bytes : ScannedObject → Forest → Path → List ℕ
source_bytes object source = λ path. bytes_at source (object.from.now ++ path)

-- the digest of what this source's tree has at each path of an object
abbrev pub source_digest : ScannedObject → Forest → Path → List ℕ
source_digest object source = read_digest object.algorithm (source_bytes object source)

-- an object's rows come in the order of their paths, with the digests of what the source has there, where it tells, and its contents are theirs
pub record AreScanned (source : Option Forest) (object : ScannedObject) : Type 0 where
  pub contents : object.contents.now ≡ map content_of_row (distinct object.rows.now)
  pub order : part_in_order (row_paths object.rows.now) ≡ true
  pub digests : ForSome source (λ s. All (HasRead (source_digest object s)) object.rows.now)

-- with their digests these could be an object's rows, whatever was read of its files
pub record CouldBeOf (object : ScannedObject) (rows : List Row) : Type 0 where
  pub paths_are : row_paths rows ≡ row_paths object.rows.now
  pub digests : HaveDigests object.algorithm rows
  pub alike : (read : Path → List ℕ) → All (HasRead read) object.rows.now → ReadAlike read rows

-- just the object stands there, if its files have some digests
abbrev pub IsAlike : ScannedObject → Forest → Tree → Type 0
IsAlike object source t =
    IsAlikeOf object.algorithm object.id.now (row_paths object.rows.now) (source_bytes object source) t

-- what is found of an object
abbrev pub IsQuick : ScannedObject → Forest → Tree → Comparison → Type 0
IsQuick object source t finding =
    IsQuickOf object.algorithm object.id.now (row_paths object.rows.now) (source_bytes object source) t finding

-- the inventory in the version's folder, if one that is a text stands there, claims this for the object's files, whose names are names
abbrev pub ClaimsAt : ScannedObject → Tree → Option (List Row) → Type 0
ClaimsAt object t claimed = (inventory : List ℕ) → t version_inventory ≡ Some (Bytes inventory) → IsUtf8 inventory
    → All AreNames (row_paths object.rows.now) × (claimed ≡ claimed_in object.algorithm inventory object.rows.now)

-- so where the root tells
unfoldable pub ClaimsIn : Option Forest → ScannedObject → Option (List Row) → Type 0
ClaimsIn root object claimed = ForSome root (λ r. ClaimsAt object (inside r object.to.now) claimed)

-- where the root tells, this is the text of the file at a path, if one that is a text stands there
unfoldable pub IsTextAt : Option Forest → Path → Option (List ℕ) → Type 0
IsTextAt root path text =
    ForSome root (λ r. (bytes : List ℕ) → tree_of r path ≡ Some (Bytes bytes) → IsUtf8 bytes → text ≡ Some bytes)
