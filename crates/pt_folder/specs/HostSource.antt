-- What a folder as a source tells, and what its calls ask of the system and leave.
use Rattle.std.specs.Prelude.{◌≡◌, ◌≤◌, ℕ, Bool, List, length, Option, None, Some, Result, Err, IfSome, OnErr, OnOk, String, Vec, string_bytes}
use Rattle.std.proofs.Common.{refl, sym, ◌∙◌}
use Rattle.std.specs.Global.{Global}
use Rattle.pt_tree.specs.declared.faults.TreeFault.{TreeFault}
use Rattle.pt_tree.specs.declared.kind.Kind.{Kind}
use Rattle.pt_tree.specs.Failing.{Failing, failing_paths}
use Rattle.pt_tree.specs.Failures.{IsCounted, IsOneMoreCall}
use Rattle.pt_tree.specs.Forest.{Forest}
use Rattle.pt_tree.specs.Listing.{Item}
use Rattle.pt_tree.specs.Path.{Path}
use Rattle.pt_tree.specs.Source.{Reading}
use Rattle.pt_folder.specs.declared.failure.Failure.{Failure}
use Rattle.pt_folder.specs.declared.reading.FileInReading.{FileInReading as Open}
use Rattle.pt_folder.specs.declared.source.HostSource.{HostSource}
use Rattle.pt_folder.specs.declared.system.Handle.{Ghosts as OfHandle}
use Rattle.pt_folder.specs.declared.system.Input.{Ghosts as OfInput}
use Rattle.pt_folder.specs.declared.system.System.{Ghosts as OfSystem}
use Rattle.pt_folder.specs.Calls.{AsksOnce, Change, IsDueTo, LeadsToKind, change_of}
use Rattle.pt_folder.specs.Devices.{was_called}
use Rattle.pt_folder.specs.Failure.{KeepsCall, KeepsListing}
use Rattle.pt_folder.specs.Folder.{FolderEntry, entry_in, entry_text}
use Rattle.pt_folder.specs.Listing.{most_entries}
use Rattle.pt_folder.specs.Parting.{FailsToListPast, IsListedPast}
use Rattle.pt_folder.specs.Opening.{KeepsOpening, OpensOnce}
use Rattle.pt_folder.specs.Reading.{IsOfReading, ReadsBy, unread_open}
use Rattle.pt_folder.specs.SourceHeld.{failing_of, told_of}
use Rattle.pt_folder.specs.WholeListing.{FailsToList, IsListedBy}

module _ {S F D : Type 0} {sys : OfSystem S F D} {handle : OfHandle F} {file : OfInput F}
    {dir : OfInput D} where
  -- the system, as the calls left it
  abbrev pub system_of : HostSource S F D sys handle file dir → S
  system_of s = s.syscalls.system

  -- the path of the folder
  abbrev pub folder_path : HostSource S F D sys handle file dir → List ℕ
  folder_path s = s.folder.path.now

  -- the failure that is kept
  abbrev pub failure_of : HostSource S F D sys handle file dir → Option Failure
  failure_of s = s.syscalls.last.failure

  -- the tree that the system keeps there
  abbrev pub kept_by : HostSource S F D sys handle file dir → Option Forest
  kept_by s = sys.forest (system_of s) (folder_path s)

  -- that tree, and what isn't read of the open file
  abbrev pub told : HostSource S F D sys handle file dir → Option Reading
  told s = told_of (kept_by s) (unread_open file.bytes s.reading)

  -- at which paths of its folder the system fails, where it tells that
  abbrev pub fails_at : HostSource S F D sys handle file dir → Option (Path → Bool)
  fails_at s = sys.failing (system_of s) (folder_path s)

  -- and whether at the open file
  abbrev pub failing : HostSource S F D sys handle file dir → Option Failing
  failing s = failing_of handle.fails (fails_at s) s.reading

  -- it is over the same folder, and fails at the same paths
  pub record IsSameFolder (old new : HostSource S F D sys handle file dir) : Type 0 where
    pub folder : new.folder ≡ old.folder
    pub fails : fails_at new ≡ fails_at old

  -- so it is itself
  pub is_same_folder : (s : HostSource S F D sys handle file dir) → IsSameFolder s s
  is_same_folder s = record { folder = refl; fails = refl }

  -- and so after more calls
  pub same_folder_on : (a b c : HostSource S F D sys handle file dir) → IsSameFolder a b → IsSameFolder b c
      → IsSameFolder a c
  same_folder_on a b c p q = record { folder = q.folder ∙ p.folder; fails = q.fails ∙ p.fails }

  -- of which the source tells the paths
  pub same_paths : (a b : HostSource S F D sys handle file dir) → IsSameFolder a b
      → failing_paths (failing b) ≡ failing_paths (failing a)
  same_paths a b same = paths (fails_at b) b.reading ∙ same.fails ∙ sym (paths (fails_at a) a.reading)
    where
      paths : (at : Option (Path → Bool)) (reading : Option (Open F))
          → failing_paths (failing_of handle.fails at reading) ≡ at
      paths None reading = refl
      paths (Some at) reading = refl

  -- an entry of its folder
  abbrev pub entry_of : HostSource S F D sys handle file dir → Path → FolderEntry
  entry_of s p = entry_in (folder_path s) p

  -- the system before a call, and after it
  abbrev pub systems_of : (old new : HostSource S F D sys handle file dir) → Change S
  systems_of old new = change_of (system_of old) (system_of new)

  -- the system is asked once to look at an entry, and its answer is the kind
  abbrev pub Looks : (old new : HostSource S F D sys handle file dir) → Path
      → Result (Option Kind) TreeFault → Type 0
  Looks old new p result =
      AsksOnce sys.looks LeadsToKind (entry_of old p) (systems_of old new) result

  -- the path that was looked at last is this one where that was answered, else the one before
  pub record IsLookedAt {T : Type 0} (old new : HostSource S F D sys handle file dir) (p : Path)
      (result : Result T TreeFault) : Type 0 where
    pub looked : OnOk result (string_bytes new.looked ≡ entry_text (folder_path old) p)
    pub unlooked : OnErr result (new.looked ≡ old.looked)

  -- what is kept of a failed look
  abbrev pub KeepsLook : (old new : HostSource S F D sys handle file dir) → Path → Type 0
  KeepsLook old new p =
      KeepsCall old.folder.path.now p
      (λ e. sys.looks old.syscalls.system (entry_text old.folder.path.now p) (Err e) new.syscalls.system)
      new.syscalls.last.failure

  -- the directory was listed so, by calls of the system; it has no more entries than a listing may have
  abbrev pub Lists : (old new : HostSource S F D sys handle file dir) → Path → List Item → Type 0
  Lists old new p listing =
      (length listing ≤ most_entries)
      × IsListedBy sys dir (entry_of old p) (systems_of old new) listing

  -- the same past bytes that are no name, which are these
  abbrev pub ListsPast : (old new : HostSource S F D sys handle file dir) → Path → List (Vec ℕ Global) → List Item → Type 0
  ListsPast old new p refused listing =
      (length listing ≤ most_entries)
      × IsListedPast sys dir (entry_of old p) (systems_of old new) refused listing

  -- why it wasn't
  abbrev pub CannotList : (old new : HostSource S F D sys handle file dir) → Path → TreeFault → Type 0
  CannotList old new p fault =
      IsDueTo fault
      (FailsToList sys dir (entry_of old p) (systems_of old new))

  -- why it wasn't past such bytes, and what is given apart then
  abbrev pub CannotListPast : (old new : HostSource S F D sys handle file dir) → Path → Change (List (Vec ℕ Global))
      → TreeFault → Type 0
  CannotListPast old new p refused fault =
      FailsToListPast sys dir (entry_of old p) (systems_of old new) refused fault

  -- what is kept, where memory allowed it, of a failed listing
  abbrev pub KeepsList : (old new : HostSource S F D sys handle file dir) → Path → Type 0
  KeepsList old new p = KeepsListing sys.looks old.folder.path.now p new.syscalls.last.failure

  -- the system is asked to look, and to open what is a file, and so it was answered
  abbrev pub Opens : (old new : HostSource S F D sys handle file dir) → Path
      → Result (Unit {0}) TreeFault → Type 0
  Opens old new p result =
      OpensOnce sys (entry_of old p) (change_of old.reading new.reading) (systems_of old new) result

  -- what is kept of a failed opening
  abbrev pub KeepsOpen : (old new : HostSource S F D sys handle file dir) → Path → Type 0
  KeepsOpen old new p =
      KeepsOpening sys (entry_of old p) (systems_of old new) new.syscalls.last.failure

  -- the open file is read on, into this block, and so it was answered; where none is open, that is a failure
  abbrev pub Reads : (old new : HostSource S F D sys handle file dir) → List ℕ
      → Result (Unit {0}) TreeFault → Type 0
  Reads old new block result = ReadsBy file.reads handle.goes old.reading new.reading block result

  -- what is kept, where memory allowed it, of a failed reading
  abbrev pub KeepsRead : (old new : HostSource S F D sys handle file dir) → Type 0
  KeepsRead old new =
      IfSome new.syscalls.last.failure (IsOfReading file.reads handle.goes (string_bytes old.at) old.reading)

  -- the open file, and the path of the file that was opened last
  abbrev pub open_file : HostSource S F D sys handle file dir → Option (Open F) × String Global
  open_file s = (s.reading, s.at)

  -- a call on the same folder is counted, and its failure is; it fails at the same paths
  pub record IsCall {T : Type 0} (old new : HostSource S F D sys handle file dir)
      (result : Result T TreeFault) : Type 0 where
    pub folder : new.folder ≡ old.folder
    pub fails : fails_at new ≡ fails_at old
    pub failures : IsCounted old.failures new.failures result
    pub calls : IsOneMoreCall (was_called old.calls) (was_called new.calls)

  -- the same, and nothing is asked of the system but to read the open file, whose path stays
  pub record IsReading {T : Type 0} (old new : HostSource S F D sys handle file dir)
      (result : Result T TreeFault) : Type 0 where
    pub folder : new.folder ≡ old.folder
    pub failures : IsCounted old.failures new.failures result
    pub calls : IsOneMoreCall (was_called old.calls) (was_called new.calls)
    pub system : new.syscalls.system ≡ old.syscalls.system
    pub at : new.at ≡ old.at
