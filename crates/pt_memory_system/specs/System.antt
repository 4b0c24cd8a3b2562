-- What a system in memory keeps, and what its calls may answer and leave.
use Rattle.std.specs.Prelude.{◌≡◌, ◌⊎◌, ℕ, List, [], take, drop, Option, Some, IfOk, Result, MatchResult}
use Rattle.std.specs.Option.{option_map}
use Rattle.std.specs.declared.io.Error.{Error}
use Rattle.std.specs.declared.io.ErrorKind.{ErrorKind}
use Rattle.std.specs.declared.io.ErrorKind.TheVariants as kind
use Rattle.pt_tree.specs.declared.kind.Kind.{Kind}
use Rattle.pt_tree.specs.Forest.{Forest, Dir, dir_at, file_at, kind_of, node_at}
use Rattle.pt_tree.specs.Path.{Path}
use Rattle.pt_tree.specs.Tree.{Tree, Bytes, Folder, added, bytes_of, kind_of_entry, moved, put}
use Rattle.pt_memory.specs.MemDest.{dest_tree}
use Rattle.pt_memory.specs.MemSource.{source_tree}
use Rattle.pt_folder.specs.DestLaws.{Kept}
use Rattle.pt_folder.specs.Folder.{entry_text}
use Rattle.pt_folder.specs.Laws.{IsPath, LooksRight}
use Rattle.pt_folder.specs.SourceLaws.{GivesAll, IsLengthOf}
use Rattle.pt_memory_system.specs.Folders.{told_at}
use Rattle.pt_memory_system.specs.declared.file.MemFile.{MemFile}
use Rattle.pt_memory_system.specs.declared.names.MemNames.{MemNames}
use Rattle.pt_memory_system.specs.declared.system.MemorySystem.{MemorySystem}

-- nothing is found, or memory was wanting
abbrev pub IsNotFound : ErrorKind → Type 0
IsNotFound k = (k ≡ kind.NotFound) ⊎ (k ≡ kind.OutOfMemory)

-- the tree of the folder that is read
abbrev pub forest_in : MemorySystem → List ℕ → Option Forest
forest_in s folder = told_at s.read.now (source_tree s.source) folder

-- a folder with this tree, in which a file stands where it was made
abbrev pub kept_of : Option Tree → Kept MemFile
kept_of tree = record { tree = tree; place = λ f. f.path }

-- the tree of the folder that is written
abbrev pub kept_in : MemorySystem → List ℕ → Kept MemFile
kept_in s folder = kept_of (told_at s.written.now (dest_tree s.dest) folder)

-- what a file holds, and what of it is left to read
abbrev pub bytes_in : MemFile → Option (List ℕ)
bytes_in f = Some f.bytes.items

-- what is left of an open file behind its place
abbrev pub left_in : MemFile → Option (List ℕ)
left_in f = Some (drop f.place f.bytes.items)

-- what is left of a directory's names
abbrev pub names_left : MemNames → Option (List ℕ)
names_left d = Some (drop d.place d.bytes.items)

-- the text is the path of an entry of the folder there; then this holds
abbrev pub OfEntry : List ℕ → List ℕ → (Path → Type 0) → Type 0
OfEntry folder text P = (p : Path) → IsPath p → text ≡ entry_text folder p → P p

-- a look changes nothing and is right in both folders
pub record Looks (old : MemorySystem) (text : List ℕ) (reply : Result Kind Error)
    (new : MemorySystem) : Type 0 where
  pub same : new ≡ old
  pub source : OfEntry old.read.now text
      (λ p. LooksRight (option_map kind_of (node_at (Dir (source_tree old.source)) p)) reply)
  pub dest : OfEntry old.written.now text
      (λ p. LooksRight (option_map kind_of_entry (dest_tree old.dest p)) reply)

-- the length of a file is told, in both folders, and nothing changes
pub record Measures (old : MemorySystem) (text : List ℕ) (reply : Result ℕ Error)
    (new : MemorySystem) : Type 0 where
  pub same : new ≡ old
  pub source : OfEntry old.read.now text (λ p. IsLengthOf (file_at (source_tree old.source) p) reply)
  pub dest : OfEntry old.written.now text (λ p. IsLengthOf (bytes_of (dest_tree old.dest p)) reply)

-- a file is opened at its start with its bytes, in both folders, and nothing changes
pub record Opens (old : MemorySystem) (text : List ℕ) (reply : Result MemFile Error)
    (new : MemorySystem) : Type 0 where
  pub same : new ≡ old
  pub start : IfOk reply (λ f. f.place ≡ 0)
  pub source : OfEntry old.read.now text
      (λ p. IfOk reply (λ f. bytes_in f ≡ file_at (source_tree old.source) p))
  pub dest : OfEntry old.written.now text
      (λ p. IfOk reply (λ f. bytes_in f ≡ bytes_of (dest_tree old.dest p)))

-- a directory is opened with the names of its entries, in the folder that is read, and nothing changes
pub record OpensDir (old : MemorySystem) (text : List ℕ) (reply : Result MemNames Error)
    (new : MemorySystem) : Type 0 where
  pub same : new ≡ old
  pub source : OfEntry old.read.now text
      (λ p. IfOk reply (λ d. GivesAll (names_left d) (dir_at (source_tree old.source) p)))

-- the folders stay at their paths, and what is only read is as before
pub record SameFolders (old new : MemorySystem) : Type 0 where
  pub read : new.read.now ≡ old.read.now
  pub source : source_tree new.source ≡ source_tree old.source
  pub written : new.written.now ≡ old.written.now

-- a directory is made, or the written tree is as before
pub record MakesDir (old : MemorySystem) (text : List ℕ) (reply : Result (Unit {0}) Error)
    (new : MemorySystem) : Type 0 where
  pub stays : SameFolders old new
  pub made : MatchResult reply
      (λ _. OfEntry old.written.now text (λ p. dest_tree new.dest ≡ put (dest_tree old.dest) p Folder))
      (λ _. dest_tree new.dest ≡ dest_tree old.dest)

-- an empty file is made and open, or the written tree is as before
pub record MakesFile (old : MemorySystem) (text : List ℕ) (reply : Result MemFile Error)
    (new : MemorySystem) : Type 0 where
  pub stays : SameFolders old new
  pub made : MatchResult reply
      (λ f. OfEntry old.written.now text
      (λ p. (dest_tree new.dest ≡ put (dest_tree old.dest) p (Bytes []))
      × (f.path ≡ Some p)))
      (λ _. dest_tree new.dest ≡ dest_tree old.dest)

-- all at and below a path is moved, or the written tree is as before
pub record Moves (old : MemorySystem) (from to : List ℕ) (reply : Result (Unit {0}) Error)
    (new : MemorySystem) : Type 0 where
  pub stays : SameFolders old new
  pub made : MatchResult reply
      (λ _. OfEntry old.written.now from (λ p. OfEntry old.written.now to
      (λ q. dest_tree new.dest ≡ moved (dest_tree old.dest) p q)))
      (λ _. dest_tree new.dest ≡ dest_tree old.dest)

-- as many bytes of the piece, from its start, stand behind those of the file at q
abbrev pub IsAdded : MemorySystem → MemorySystem → Path → List ℕ → ℕ → Type 0
IsAdded old new q piece count = dest_tree new.dest ≡ added (dest_tree old.dest) q (take count piece)

-- the file's bytes grow by what the answer says, or by a part of the piece
pub record Writes (old : MemorySystem) (file : MemFile) (piece : List ℕ)
    (reply : Result ℕ Error) (new : MemorySystem) (after : MemFile) : Type 0 where
  pub stays : SameFolders old new
  pub path : after.path ≡ file.path
  pub added : (q : Path) → file.path ≡ Some q → MatchResult reply (IsAdded old new q piece)
      (λ _. (count : ℕ) × IsAdded old new q piece count)
