-- The reads and writes of an open file, one after another.
use Rattle.std.specs.Prelude.{◌≡◌, ◌⊎◌, ◌<◌, ◌-◌, ◌++◌, ℕ, List, [], length, take, drop, Option, Result, Ok, Err}
use Rattle.std.specs.IoError.{error_kind}
use Rattle.std.specs.List.{FoldsTo}
use Rattle.std.specs.declared.io.Error.{Error}
use Rattle.std.specs.declared.io.ErrorKind.TheVariants.{WriteZero}
use Rattle.pt_tree.specs.declared.faults.TreeFault.{TreeFault}
use Rattle.pt_folder.specs.Bytes.{TakesBlock}
use Rattle.pt_folder.specs.Calls.{fault_of}

-- one read into a buffer of so much room, and what it answered
abbrev pub Reads : {F : Type 0} → (F → List ℕ → Result ℕ Error → F → Type 0) → ℕ → F
    → Result ℕ Error → F → Type 0
Reads reads room old reply new = (buffer : List ℕ) × (length buffer ≡ room) × reads old buffer reply new

-- one read into a buffer of so much room gave these bytes, of which there are some
pub record GivesPiece {F : Type 0} (reads : F → List ℕ → Result ℕ Error → F → Type 0) (room : ℕ)
    (old : F) (piece : List ℕ) (new : F) : Type 0 where
  pub buffer : List ℕ
  pub whole : length buffer ≡ room
  pub filled : 0 < length piece
  pub read : reads old buffer (Ok (length piece)) new
  pub given : piece ≡ take (length piece) buffer

-- one more piece of a block, behind what was read of it, into the room that is left
abbrev pub ReadsMore : {F : Type 0} → (F → List ℕ → Result ℕ Error → F → Type 0) → ℕ → F × List ℕ
    → List ℕ → F × List ℕ → Type 0
ReadsMore reads room old piece new =
    GivesPiece reads (room - length old.1) old.0 piece new.0 × (new.1 ≡ old.1 ++ piece)

-- These bytes were read piece by piece, each read going on from where the last one left the file, until there was no
-- room or a read gave nothing.
pub record ReadsBlock {F : Type 0} (reads : F → List ℕ → Result ℕ Error → F → Type 0) (room : ℕ)
    (old : F) (block : List ℕ) (new : F) : Type 0 where
  pub pieces : List (List ℕ)
  pub last : F
  pub read : FoldsTo (ReadsMore reads room) (old, []) pieces (last, block)
  pub ends : ((length block ≡ room) × (new ≡ last))
      ⊎ ((length block < room) × Reads reads (room - length block) last (Ok 0) new)

-- bytes were read piece by piece, and then a read answered so
pub record FailsToRead {F : Type 0} (reads : F → List ℕ → Result ℕ Error → F → Type 0) (room : ℕ)
    (old : F) (e : Error) (new : F) : Type 0 where
  pub pieces : List (List ℕ)
  pub block : List ℕ
  pub last : F
  pub read : FoldsTo (ReadsMore reads room) (old, []) pieces (last, block)
  pub short : length block < room
  pub failed : Reads reads (room - length block) last (Err e) new

-- the writes of a system, as one of a system with an open file
abbrev pub on_pairs : {S F : Type 0} → (S → F → List ℕ → Result ℕ Error → S → F → Type 0) → S × F
    → List ℕ → Result ℕ Error → S × F → Type 0
on_pairs writes old piece reply new = writes old.0 old.1 piece reply new.0 new.1

-- a write of all the bytes that are left took so many of them, and some
abbrev pub WritesMore : {F : Type 0} → (F → List ℕ → Result ℕ Error → F → Type 0) → F × List ℕ → ℕ
    → F × List ℕ → Type 0
WritesMore writes old taken new = (0 < taken) × writes old.0 old.1 (Ok taken) new.0
    × (new.1 ≡ drop taken old.1)

-- all the bytes were written, each write beginning with the first that was left
abbrev pub WritesAll : {F : Type 0} → (F → List ℕ → Result ℕ Error → F → Type 0) → List ℕ → F → F → Type 0
WritesAll writes bytes old new = (counts : List ℕ) × FoldsTo (WritesMore writes) (old, bytes) counts (new, [])

-- bytes were written so, and then a write of the rest answered so, or took nothing
pub record FailsToWrite {F : Type 0} (writes : F → List ℕ → Result ℕ Error → F → Type 0)
    (bytes : List ℕ) (old : F) (e : Error) (new : F) : Type 0 where
  pub counts : List ℕ
  pub left : List ℕ
  pub last : F
  pub written : FoldsTo (WritesMore writes) (old, bytes) counts (last, left)
  pub some : 0 < length left
  pub failed : writes last left (Err e) new ⊎ (writes last left (Ok 0) new × (error_kind e ≡ WriteZero))

-- the first bytes of a file, by the system's reply and the file's reads
abbrev pub PeeksAt : {F : Type 0} → (F → Option (List ℕ))
    → (F → List ℕ → Result ℕ Error → F → Type 0) → List ℕ → Result F Error
    → Result (Unit {0}) TreeFault → Type 0
PeeksAt {F} left reads block (Ok file) (Ok done) = (after : F)
    × TakesBlock (left file) (left after) block × ReadsBlock reads 8192 file block after
PeeksAt {F} left reads block (Ok file) (Err fault) = (e : Error) × (after : F)
    × FailsToRead reads 8192 file e after × (fault ≡ fault_of e)
PeeksAt left reads block (Err e) result = result ≡ Err (fault_of e)
