-- What a quick audit finds of an object that stands, and of which files and lengths that tells.
use Rattle.std.specs.Prelude.{◌≡◌, ◌<◌, ◌^◌, ◌+◌, ℕ, All, List, length, map, Some}
use Rattle.pt_compare.specs.Found.{IsObject}
use Rattle.pt_compare.specs.Marks.{inside}
use Rattle.pt_compare.specs.declared.difference.Comparison.{Comparison}
use Rattle.pt_compare.specs.declared.difference.Comparison.TheVariants.{Same}
use Rattle.pt_object.specs.Algorithm.{digest_of}
use Rattle.pt_object.specs.FilePaths.{File, row_paths}
use Rattle.pt_object.specs.Object.{bytes_in, in_content, rows_of, stored_path}
use Rattle.pt_object.specs.declared.algorithm.Algorithm.{Algorithm}
use Rattle.pt_object.specs.declared.rows.Row.{Row}
use Rattle.pt_quick.specs.ByDepth.{measured, tree_measured}
use Rattle.pt_quick.specs.Measured.{text_of_file, text_of_length}
use Rattle.pt_quick.specs.Quick.{HaveDigests, IsAlikeOf, IsQuickOf, read_digest, sought_by}
use Rattle.pt_quick.specs.ReadAlike.{ReadAlike}
use Rattle.pt_quick.specs.SitesMeasured.{file_seen}
use Rattle.pt_tree.specs.Forest.{Forest}
use Rattle.pt_tree.specs.Path.{IsBelowTop, Path}
use Rattle.pt_tree.specs.Tree.{Bytes, Tree}
use Rattle.pt_walk.specs.Object.{entries, files}

-- an object that stands just as it is sought is alike
abbrev pub StandingObjectIsAlike : Type 0
StandingObjectIsAlike = (algorithm : Algorithm) (id : List ℕ) (rows : List Row) (bytes : Path → List ℕ) (t : Tree)
    → HaveDigests algorithm rows → ReadAlike (read_digest algorithm bytes) rows
    → IsObject (sought_by algorithm id rows bytes) t → IsAlikeOf algorithm id (row_paths rows) bytes t

-- the rows of files have digests of their algorithm
abbrev pub RowsOfFilesHaveDigests : Type 0
RowsOfFilesHaveDigests =
    (algorithm : Algorithm) (files : List File) → HaveDigests algorithm (rows_of algorithm files)

-- what is found hangs on the bytes of the object's own files alone
abbrev pub OtherBytesArentRead : Type 0
OtherBytesArentRead = (algorithm : Algorithm) (id : List ℕ) (paths : List Path) (bytes other : Path → List ℕ) (t : Tree) (finding : Comparison)
    → All (λ p. bytes p ≡ other p) paths → IsQuickOf algorithm id paths bytes t finding
    → IsQuickOf algorithm id paths other t finding

-- what stands at a place of a root whose contents are seen by lengths
abbrev pub InsideIsMeasured : Type 0
InsideIsMeasured = (longest : ℕ) (root : Forest) (place : Path)
    → inside (measured longest (length place + 2) root) place ≡ tree_measured longest 2 (inside root place)

-- ---- what is found of a tree that is seen by lengths

-- Of files with these rows and bytes this is seen: the texts of their lengths. Each is as long as the one that is stored for it, which is so unless two
-- have one digest and other lengths.
pub record AreSeen (longest : ℕ) (rows : List Row) (bytes seen : Path → List ℕ) : Type 0 where
  pub texts : All (λ row. seen row.path ≡ text_of_file longest (bytes row.path)) rows
  pub named : All (λ row. IsBelowTop row.path) rows
  pub stored : All (λ row. length (bytes (stored_path rows row)) ≡ length (bytes row.path)) rows

-- so it is of the files that a walk by lengths carries, in the place of those of a walk over the bytes
abbrev pub CarriedFilesAreSeen : Type 0
CarriedFilesAreSeen = (longest : ℕ) (algorithm : Algorithm) (object : Forest)
    → All (λ row. length (bytes_in (files (entries object)) (stored_path (rows_of algorithm (files (entries object))) row))
    ≡ length (bytes_in (files (entries object)) row.path)) (rows_of algorithm (files (entries object)))
    → AreSeen longest (rows_of algorithm (files (entries object))) (bytes_in (files (entries object)))
    (bytes_in (map (file_seen longest) (files (entries object))))

-- a quick audit never tells as differing what a whole one finds to be the same
abbrev pub QuickFindsTheSame : Type 0
QuickFindsTheSame = (longest : ℕ) (algorithm : Algorithm) (id : List ℕ) (files : List File) (seen : Path → List ℕ) (t : Tree) (finding : Comparison)
    → AreSeen longest (rows_of algorithm files) (bytes_in files) seen
    → IsObject (sought_by algorithm id (rows_of algorithm files) (bytes_in files)) t
    → IsQuickOf algorithm id (row_paths (rows_of algorithm files)) seen (tree_measured longest 2 t) finding → finding ≡ Same

-- the texts of two lengths have two digests
abbrev pub TellsLengths : Algorithm → ℕ → Type 0
TellsLengths algorithm longest = (m n : ℕ) → m < 2 ^ 64 → n < 2 ^ 64
    → digest_of algorithm (text_of_length longest m) ≡ digest_of algorithm (text_of_length longest n) → m ≡ n

-- the file that is stored for a row stands, and is as long as the store's; and so is the row's own, where digests tell lengths apart
pub record IsAsLong (tells : Type 0) (rows : List Row) (bytes : Path → List ℕ) (t : Tree) (row : Row) : Type 0 where
  pub content : List ℕ
  pub stands : t (in_content (stored_path rows row)) ≡ Some (Bytes content)
  pub stored : length content ≡ length (bytes (stored_path rows row))
  pub own : tells → length content ≡ length (bytes row.path)

-- each file of a tree has fewer than 2^64 bytes
abbrev pub HasShortFiles : Tree → Type 0
HasShortFiles t = (q : Path) (bytes : List ℕ) → t q ≡ Some (Bytes bytes) → length bytes < 2 ^ 64

-- of an object that is alike each file is as long as what stands for it
abbrev pub AlikeFilesAreAsLong : Type 0
AlikeFilesAreAsLong = (longest : ℕ) (algorithm : Algorithm) (id : List ℕ) (paths : List Path) (bytes seen : Path → List ℕ) (t : Tree)
    → HasShortFiles t → All (λ p. length (bytes p) < 2 ^ 64) paths → All IsBelowTop paths
    → All (λ p. seen p ≡ text_of_file longest (bytes p)) paths
    → (alike : IsAlikeOf algorithm id paths seen (tree_measured longest 2 t))
    → All (IsAsLong (TellsLengths algorithm longest) alike.rows bytes t) alike.rows
