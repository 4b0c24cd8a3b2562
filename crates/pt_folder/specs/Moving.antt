-- How something is moved in a folder.
use Rattle.std.specs.Prelude.{
  ◌≡◌,
  ◌≢◌,
  ◌⊎◌,
  ℕ,
  Bool,
  true,
  false,
  List,
  [],
  ◌∷◌,
  ◌++◌,
  length,
  Option,
  None,
  Result,
  Ok,
  Err,
  MatchOption,
  MatchResult,
  string_bytes,
}
use Rattle.std.specs.declared.io.Error.{Error}
use Rattle.pt_tree.specs.declared.faults.TreeFault.{TreeFault}
use Rattle.pt_tree.specs.declared.faults.TreeFault.TheVariants.{Device}
use Rattle.pt_tree.specs.Path.{Path}
use Rattle.pt_folder.specs.Calls.{Change, IsRefused, IsSyncAnswer, fault_of}
use Rattle.pt_folder.specs.Failure.{IsOfCall, IsUnasked}
use Rattle.pt_folder.specs.Folder.{entry_text}
use Rattle.pt_folder.specs.Laws.{IsPath}
use Rattle.pt_folder.specs.UnsyncedChange.{move_to_sync, unsynced_after, unless_done}
use Rattle.pt_folder.specs.declared.failure.Failure.{Failure}
use Rattle.pt_folder.specs.declared.moving.Move.{Move}
use Rattle.pt_folder.specs.declared.moving.ReadyMove.{ReadyMove}
use Rattle.pt_folder.specs.declared.system.System.{Ghosts as OfSystem}
use Rattle.pt_folder.specs.declared.unsynced_change.UnsyncedChange.{UnsyncedChange}
use Rattle.pt_folder.specs.declared.unsynced_change.UnsyncedChange.TheVariants as unsynced

-- the path of the directory that holds a directory
abbrev pub holder_text : List ℕ → List ℕ
holder_text path = path ++ 47 ∷ 46 ∷ 46 ∷ []

-- a move within a folder: the folder's path, from where and to where in it, and whether its directory is put onto the disk
pub record FolderMove : Type 0 where
  pub folder : List ℕ
  pub from : Path
  pub to : Path
  pub synced : Bool

-- the move in this folder
abbrev pub move_in : List ℕ → Move → FolderMove
move_in folder m = record { folder = folder; from = m.from.now; to = m.to.now; synced = m.synced }

-- a move of what is at a path of a folder is ready
pub record IsReady (synced : Bool) (folder : List ℕ) (p q : Path) (ready : ReadyMove) : Type 0 where
  pub from : string_bytes ready.from ≡ entry_text folder p
  pub to : string_bytes ready.to ≡ entry_text folder q
  pub holder : string_bytes ready.holder ≡ holder_text (entry_text folder q)
  pub left : ready.left ≡ move_to_sync synced p q
  pub filled : length folder ≢ 0
  pub named : IsPath p × IsPath q

-- what is at a path was opened and put onto the disk, and so it was answered
abbrev pub IsSynced : {S F : Type 0} → (S → List ℕ → Result F Error → S → Type 0)
    → (F → Result (Unit {0}) Error → F → Type 0) → List ℕ → S → S → Result (Unit {0}) TreeFault
    → Type 0
IsSynced {S} {F} opens syncs path old new result = (reply : Result F Error)
    × opens old path reply new
    × MatchResult reply (λ file. (answer : Result (Unit {0}) Error) × (after : F)
    × syncs file answer after × IsSyncAnswer answer result) (λ e. result ≡ Err Device)

-- it could not be opened, or not be put onto the disk
abbrev pub FailsToSync : {S F : Type 0} → (S → List ℕ → Result F Error → S → Type 0)
    → (F → Result (Unit {0}) Error → F → Type 0) → List ℕ → S → S → Error → Type 0
FailsToSync {S} {F} opens syncs path old new e = opens old path (Err e) new
    ⊎ ((file : F) × (after : F) × opens old path (Ok file) new
    × syncs file (Err e) after)

-- what comes after a move: nothing, or the directory that holds what was moved is put onto the disk
abbrev pub AfterMove : {S F : Type 0} → (S → List ℕ → Result F Error → S → Type 0)
    → (F → Result (Unit {0}) Error → F → Type 0) → Bool → List ℕ → S → S
    → Result (Unit {0}) TreeFault → Type 0
AfterMove opens syncs false to old new result = (new ≡ old) × (result ≡ Ok tt)
AfterMove opens syncs true to old new result = IsSynced opens syncs (holder_text to) old new result

-- a move that is ready was asked for, and by its reply this came after it
pub record IsGone {S F D : Type 0} (sys : OfSystem S F D)
    (syncs : F → Result (Unit {0}) Error → F → Type 0) (ready : ReadyMove) (system : Change S)
    (left : Change (Option UnsyncedChange)) (result : Result (Unit {0}) TreeFault) : Type 0 where
  pub reply : Result (Unit {0}) Error
  pub mid : S
  pub made : sys.renames system.old (string_bytes ready.from) (string_bytes ready.to) reply mid
  pub gives : MatchResult reply
      (λ _. MatchOption ready.left ((system.new ≡ mid) × (result ≡ Ok tt) × (left.new ≡ None))
      (λ s. IsSynced sys.opens syncs (string_bytes ready.holder) mid system.new result
      × (left.new ≡ unless_done s result)))
      (λ e. (system.new ≡ mid) × (result ≡ Err (fault_of e)) × (left.new ≡ left.old))

-- what a failure that is kept of it was of: the move, or putting the directory onto the disk
abbrev pub IsOfGoing : {S F D : Type 0} → OfSystem S F D → (F → Result (Unit {0}) Error → F → Type 0)
    → ReadyMove → Change S → Failure → Type 0
IsOfGoing {S} sys syncs ready system f =
    IsOfCall (string_bytes ready.to)
    (λ e. sys.renames system.old (string_bytes ready.from) (string_bytes ready.to) (Err e) system.new) f
    ⊎ ((mid : S) × IsOfCall (string_bytes ready.holder)
    (FailsToSync sys.opens syncs (string_bytes ready.holder) mid system.new) f)

-- the move was asked for, and by its reply this came after it; where it stands and its directory couldn't be put onto
-- the disk, it is unsynced
pub record IsMovedBy {S F D : Type 0} (sys : OfSystem S F D)
    (syncs : F → Result (Unit {0}) Error → F → Type 0) (m : FolderMove) (system : Change S)
    (left : Option UnsyncedChange) (result : Result (Unit {0}) TreeFault) : Type 0 where
  pub reply : Result (Unit {0}) Error
  pub mid : S
  pub filled : length m.folder ≢ 0
  pub named : IsPath m.from × IsPath m.to
  pub made : sys.renames system.old (entry_text m.folder m.from) (entry_text m.folder m.to) reply mid
  pub gives : MatchResult reply
      (λ _. AfterMove sys.opens syncs m.synced (entry_text m.folder m.to) mid system.new result)
      (λ e. (system.new ≡ mid) × (result ≡ Err (fault_of e)))
  pub left_unsynced : left ≡ unsynced_after reply (unsynced.Moved m.from m.to) result

-- nothing is asked, and the path was refused; or the move is asked for once
abbrev pub MovesOnce : {S F D : Type 0} → OfSystem S F D → (F → Result (Unit {0}) Error → F → Type 0)
    → FolderMove → Change S → Option UnsyncedChange → Result (Unit {0}) TreeFault → Type 0
MovesOnce sys syncs m system left result =
    ((system.new ≡ system.old) × (left ≡ None) × IsRefused m.folder result)
    ⊎ IsMovedBy sys syncs m system left result

-- what a failure that is kept was of: no call, the move, or putting the directory onto the disk
abbrev pub IsOfMove : {S F D : Type 0} → OfSystem S F D → (F → Result (Unit {0}) Error → F → Type 0)
    → FolderMove → Change S → Failure → Type 0
IsOfMove {S} sys syncs m system f =
    (IsUnasked m.folder f ⊎ IsOfCall (entry_text m.folder m.to)
    (λ e. sys.renames system.old (entry_text m.folder m.from) (entry_text m.folder m.to) (Err e)
    system.new) f)
    ⊎ ((mid : S) × IsOfCall (holder_text (entry_text m.folder m.to))
    (FailsToSync sys.opens syncs (holder_text (entry_text m.folder m.to)) mid system.new) f)
