-- What a rehearsal leaves of the folder that it looks at, and what it asks of the system.
use Rattle.std.specs.Prelude.{◌≡◌, ◌≢◌, ◌⊎◌, [], length, OnOk, OnErr, Result, Err}
use Rattle.pt_tree.specs.Path.{Path}
use Rattle.pt_tree.specs.declared.faults.TreeFault.{TreeFault}
use Rattle.pt_tree.specs.declared.faults.TreeFault.TheVariants.{Device}
use Rattle.pt_folder.specs.Calls.{IsThere}
use Rattle.pt_folder.specs.HostDest.{Looks, folder_of, folder_path, kept_by, longest_of, unsynced_of, synced_of, system_of, writing_of}
use Rattle.pt_folder.specs.Settings.{IsSetAs}
use Rattle.pt_folder.specs.declared.dest.HostDest.{HostDest}
use Rattle.pt_folder.specs.declared.system.Handle.{Ghosts as OfHandle}
use Rattle.pt_folder.specs.declared.system.Input.{Ghosts as OfInput}
use Rattle.pt_folder.specs.declared.system.System.{Ghosts as OfSystem}

module _ {S F D : Type 0} {sys : OfSystem S F D} {handle : OfHandle F} {file : OfInput F}
    {dir : OfInput D} where
  -- the same folder, with the same settings and open file, and the same unsynced, of which the system keeps what it kept
  abbrev pub SameFolder : (old new : HostDest S F D sys handle file dir) → Type 0
  SameFolder old new =
      (folder_of new ≡ folder_of old)
      × IsSetAs (longest_of old) (synced_of old) (longest_of new) (synced_of new)
      × (writing_of new ≡ writing_of old)
      × (unsynced_of new ≡ unsynced_of old)
      × (sys.kept (system_of new) (folder_path old) ≡ kept_by old)

  -- nothing is asked, as of an entry that isn't right in the folder, or where it is refused; or the system is asked once to
  -- look at the folder itself, and a failed look is the answer
  abbrev pub LooksAtFolder : (old new : HostDest S F D sys handle file dir) → Path
      → Result (Unit {0}) TreeFault → Type 0
  LooksAtFolder old new p result =
      ((system_of new ≡ system_of old) × OnOk result (length p ≢ 1))
      ⊎ ((looked : Result (Unit {0}) TreeFault) × Looks IsThere old new [] looked
      × OnErr looked (result ≡ looked))

  -- the system is asked once to look at the folder itself, and that fails
  abbrev pub MissesFolder : (old new : HostDest S F D sys handle file dir) → Type 0
  MissesFolder old new = Looks IsThere old new [] (Err Device)
