-- What a folder as a destination tells, and what its calls ask of the system and leave.
use Rattle.std.specs.Prelude.{◌≡◌, ◌⊎◌, ℕ, Bool, List, Option, None, Result, Err, IfSome, IsSome, IsSomeAnd, String}
use Rattle.std.specs.Global.{Global}
use Rattle.std.specs.declared.io.Error.{Error}
use Rattle.pt_tree.specs.Dest.{Writing}
use Rattle.pt_tree.specs.Failures.{IsCounted}
use Rattle.pt_tree.specs.Path.{Path}
use Rattle.pt_tree.specs.declared.faults.TreeFault.{TreeFault}
use Rattle.pt_tree.specs.declared.faults.TreeFault.TheVariants.{Device}
use Rattle.pt_folder.specs.Calls.{AsksOnce, IsAnswer, MakesOnce, change_of}
use Rattle.pt_folder.specs.DestHeld.{told_with}
use Rattle.pt_folder.specs.DestLaws.{Kept}
use Rattle.pt_folder.specs.Failure.{FailsToPeek, KeepsCall, KeepsMaking}
use Rattle.pt_folder.specs.Folder.{entry_in, entry_text}
use Rattle.pt_folder.specs.Moving.{FolderMove, IsOfMove, MovesOnce}
use Rattle.pt_folder.specs.Runs.{PeeksAt}
use Rattle.pt_folder.specs.Settings.{IsSetAs}
use Rattle.pt_folder.specs.Writing.{FailsToAdd, ClosesBy, IsOfWriting, MakesAt, WritesTo}
use Rattle.pt_folder.specs.declared.syscalls.Syscalls.{Syscalls}
use Rattle.pt_folder.specs.declared.dest.HostDest.{HostDest}
use Rattle.pt_folder.specs.declared.failure.Failure.{Failure}
use Rattle.pt_folder.specs.declared.folder.Folder.{Folder}
use Rattle.pt_folder.specs.declared.unsynced_change.UnsyncedChange.{UnsyncedChange}
use Rattle.pt_folder.specs.declared.system.Handle.{Ghosts as OfHandle}
use Rattle.pt_folder.specs.declared.system.Input.{Ghosts as OfInput}
use Rattle.pt_folder.specs.declared.system.System.{Ghosts as OfSystem}
use Rattle.pt_folder.specs.declared.writing.FileInWriting.{FileInWriting as Open}
use Rattle.pt_tree.specs.declared.kind.Kind.{Kind}

module _ {S F D : Type 0} {sys : OfSystem S F D} {handle : OfHandle F} {file : OfInput F}
    {dir : OfInput D} where
  -- the system, as the calls left it
  abbrev pub system_of : HostDest S F D sys handle file dir → S
  system_of d = d.syscalls.system

  -- the path of the folder
  abbrev pub folder_path : HostDest S F D sys handle file dir → List ℕ
  folder_path d = d.folder.path.now

  -- the folder, with its path
  abbrev pub folder_of : HostDest S F D sys handle file dir → Folder
  folder_of d = d.folder

  -- the failure that is kept
  abbrev pub failure_of : HostDest S F D sys handle file dir → Option Failure
  failure_of d = d.syscalls.last.failure

  -- the greatest length of a path at which something is made
  abbrev pub longest_of : HostDest S F D sys handle file dir → ℕ
  longest_of d = d.longest

  -- whether files are put onto the disk
  abbrev pub synced_of : HostDest S F D sys handle file dir → Bool
  synced_of d = d.synced

  -- the open file
  abbrev pub writing_of : HostDest S F D sys handle file dir → Option (Open F)
  writing_of d = d.writing

  -- how many calls failed
  abbrev pub failures_of : HostDest S F D sys handle file dir → ℕ
  failures_of d = d.failures

  -- what is unsynced
  abbrev pub unsynced_of : HostDest S F D sys handle file dir → Option UnsyncedChange
  unsynced_of d = d.unsynced

  -- what the system keeps of it
  abbrev pub kept_by : HostDest S F D sys handle file dir → Kept F
  kept_by d = sys.kept (system_of d) (folder_path d)

  -- the tree that the system keeps there, and the path of the open file; where something is unsynced, as they were before
  abbrev pub told : HostDest S F D sys handle file dir → Option Writing
  told d = told_with (sys.kept d.syscalls.system d.folder.path.now) d.unsynced d.writing

  -- the same folder, with the same settings
  abbrev pub IsSame : (old new : HostDest S F D sys handle file dir) → Type 0
  IsSame old new = (new.folder ≡ old.folder) × IsSetAs old.longest old.synced new.longest new.synced

  -- a call on the same folder, whose failure is counted and which leaves this unsynced; the path that was looked at last stays
  pub record IsCall {T : Type 0} (old new : HostDest S F D sys handle file dir)
      (left : Option UnsyncedChange) (result : Result T TreeFault) : Type 0 where
    pub keeps : IsSame old new
    pub failures : IsCounted old.failures new.failures result
    pub unsynced : new.unsynced ≡ left
    pub at : new.at ≡ old.at

  -- the same of a call that isn't of the open file: that stays open, and what is unsynced is unsynced
  pub record IsOtherCall {T : Type 0} (old new : HostDest S F D sys handle file dir)
      (result : Result T TreeFault) : Type 0 where
    pub keeps : IsSame old new
    pub failures : IsCounted old.failures new.failures result
    pub unsynced : new.unsynced ≡ old.unsynced
    pub writing : new.writing ≡ old.writing
    pub at : new.at ≡ old.at

  -- the same of a look, after which another path may be the one that was looked at last
  pub record IsLook {T : Type 0} (old new : HostDest S F D sys handle file dir)
      (result : Result T TreeFault) : Type 0 where
    pub keeps : IsSame old new
    pub failures : IsCounted old.failures new.failures result
    pub unsynced : new.unsynced ≡ old.unsynced
    pub writing : new.writing ≡ old.writing

  -- what stays when a setting is changed: the system, the folder, the path that was looked at, and the failures
  abbrev pub lasting : HostDest S F D sys handle file dir → Syscalls S × Folder × String Global × ℕ
  lasting d = (d.syscalls, d.folder, d.at, d.failures)

  -- where something is unsynced the call is refused, and nothing is asked or changed; where nothing is, this holds
  abbrev pub UnlessUnsynced : {T : Type 0} → (old new : HostDest S F D sys handle file dir)
      → Result T TreeFault → Type 0 → Type 0
  UnlessUnsynced old new result asks =
      (IsSome old.unsynced × (new.syscalls.system ≡ old.syscalls.system) × (new.writing ≡ old.writing)
      × (new.unsynced ≡ old.unsynced) × (result ≡ Err Device))
      ⊎ ((old.unsynced ≡ None) × asks)

  -- what is kept of a failed call: nothing where something is unsynced; where nothing is, this holds
  abbrev pub KeptUnlessUnsynced : (old new : HostDest S F D sys handle file dir) → Type 0 → Type 0
  KeptUnlessUnsynced old new keeps =
      (IsSome old.unsynced × (new.syscalls.last.failure ≡ None)) ⊎ ((old.unsynced ≡ None) × keeps)

  -- the system is asked once to look at an entry, and its answer leads to this
  abbrev pub Looks : {T : Type 0} → (Result Kind Error → Result T TreeFault → Type 0)
      → (old new : HostDest S F D sys handle file dir) → Path → Result T TreeFault → Type 0
  Looks leads old new p result =
      UnlessUnsynced old new result
      (AsksOnce sys.looks leads (entry_in old.folder.path.now p)
      (change_of old.syscalls.system new.syscalls.system) result)

  -- what is kept of a failed look
  abbrev pub KeepsLook : (old new : HostDest S F D sys handle file dir) → Path → Type 0
  KeepsLook old new p =
      KeptUnlessUnsynced old new
      (KeepsCall old.folder.path.now p
      (λ e. sys.looks old.syscalls.system (entry_text old.folder.path.now p) (Err e) new.syscalls.system)
      new.syscalls.last.failure)

  -- the system is asked once to open an entry for reading, and its first bytes are this block, or the answer leads to this
  abbrev pub Peeks : (old new : HostDest S F D sys handle file dir) → Path → List ℕ
      → Result (Unit {0}) TreeFault → Type 0
  Peeks old new p block result =
      UnlessUnsynced old new result
      (AsksOnce sys.opens (PeeksAt file.left file.reads block)
      (entry_in old.folder.path.now p) (change_of old.syscalls.system new.syscalls.system) result)

  -- what is kept of first bytes that aren't had
  abbrev pub KeepsPeek : (old new : HostDest S F D sys handle file dir) → Path → Type 0
  KeepsPeek old new p =
      KeptUnlessUnsynced old new
      (KeepsCall old.folder.path.now p
      (FailsToPeek sys.opens file.reads
      (entry_text old.folder.path.now p) old.syscalls.system new.syscalls.system)
      new.syscalls.last.failure)

  -- the system is asked once to make a directory, unless its path is too long, and so it was answered
  abbrev pub MakesDir : (old new : HostDest S F D sys handle file dir) → Path
      → Result (Unit {0}) TreeFault → Type 0
  MakesDir old new p result =
      UnlessUnsynced old new result
      (MakesOnce old.longest sys.makes_dir IsAnswer
      (entry_in old.folder.path.now p) (change_of old.syscalls.system new.syscalls.system) result)

  -- what is kept of a directory that isn't made
  abbrev pub KeepsDir : (old new : HostDest S F D sys handle file dir) → Path → Type 0
  KeepsDir old new p =
      KeptUnlessUnsynced old new
      (KeepsMaking old.longest old.folder.path.now p
      (λ e. sys.makes_dir old.syscalls.system (entry_text old.folder.path.now p) (Err e) new.syscalls.system)
      new.syscalls.last.failure)

  -- the system is asked once to make a file, unless its path is too long, and by its answer that is the open one
  abbrev pub MakesFile : (old new : HostDest S F D sys handle file dir) → Path
      → Result (Unit {0}) TreeFault → Type 0
  MakesFile old new p result =
      UnlessUnsynced old new result
      (MakesOnce old.longest sys.makes_file (MakesAt p old.writing new.writing)
      (entry_in old.folder.path.now p) (change_of old.syscalls.system new.syscalls.system) result)

  -- what is kept of a file that isn't made
  abbrev pub KeepsFile : (old new : HostDest S F D sys handle file dir) → Path → Type 0
  KeepsFile old new p =
      KeptUnlessUnsynced old new
      (KeepsMaking old.longest old.folder.path.now p
      (λ e. sys.makes_file old.syscalls.system (entry_text old.folder.path.now p) (Err e) new.syscalls.system)
      new.syscalls.last.failure)

  -- the writes that the open file is asked for, and so they were answered; where none is open, that is a failure
  abbrev pub Writes : (old new : HostDest S F D sys handle file dir) → List ℕ
      → Result (Unit {0}) TreeFault → Type 0
  Writes old new piece result =
      UnlessUnsynced old new result
      (WritesTo sys.writes (change_of old.syscalls.system new.syscalls.system) old.writing new.writing piece result)

  -- what is kept of a failed write, where memory allowed it
  abbrev pub KeepsWrite : (old new : HostDest S F D sys handle file dir) → List ℕ → Type 0
  KeepsWrite old new piece =
      KeptUnlessUnsynced old new
      (IfSome new.syscalls.last.failure
      (IsOfWriting old.folder.path.now (FailsToAdd sys.writes piece old.syscalls.system) old.writing))

  -- the open file is closed, put onto the disk before where that is asked for; where none is open, that is a failure
  abbrev pub Closes : HostDest S F D sys handle file dir → Result (Unit {0}) TreeFault → Type 0
  Closes old result =
      (IsSome old.unsynced × (result ≡ Err Device))
      ⊎ ((old.unsynced ≡ None) × ClosesBy handle.syncs old.synced old.writing result)

  -- what is kept of a file that isn't put onto the disk, where memory allowed it
  abbrev pub KeepsClose : (old new : HostDest S F D sys handle file dir) → Type 0
  KeepsClose old new =
      KeptUnlessUnsynced old new
      (IfSome new.syscalls.last.failure
      (IsOfWriting old.folder.path.now (λ w e. (after : F)
      × handle.syncs w (Err e) after) old.writing))

  -- a move in its folder, as it is set
  abbrev pub move_of : HostDest S F D sys handle file dir → Path → Path → FolderMove
  move_of d from to = record { folder = d.folder.path.now; from = from; to = to; synced = d.synced }

  -- the system is asked once to move an entry, and what comes after that
  abbrev pub Moves : (old new : HostDest S F D sys handle file dir) → Path → Path
      → Result (Unit {0}) TreeFault → Type 0
  Moves old new from to result =
      UnlessUnsynced old new result
      (MovesOnce sys handle.syncs (move_of old from to) (change_of old.syscalls.system new.syscalls.system)
      new.unsynced result)

  -- what is kept of a failed move
  abbrev pub KeepsMove : (old new : HostDest S F D sys handle file dir) → Path → Path → Type 0
  KeepsMove old new from to =
      KeptUnlessUnsynced old new
      (IsSomeAnd new.syscalls.last.failure
      (IsOfMove sys handle.syncs (move_of old from to) (change_of old.syscalls.system new.syscalls.system)))
