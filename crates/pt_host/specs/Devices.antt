-- What the folders of a run are, and hold: read by what their types know of them.
use Rattle.std.specs.Prelude.{◌≡◌, ℕ, List, Option, None}
use Rattle.pt_folder.specs.DestHeld.{told_with}
use Rattle.pt_folder.specs.HostDest.{folder_path as dest_path, kept_by, system_of as dest_system}
use Rattle.pt_folder.specs.HostSource.{folder_path as store_path, system_of as store_system}
use Rattle.pt_folder.specs.declared.dest.HostDest.{HostDest}
use Rattle.pt_folder.specs.declared.source.HostSource.{HostSource}
use Rattle.pt_folder.specs.declared.system.Handle.{Ghosts as OfHandle}
use Rattle.pt_folder.specs.declared.system.Input.{Ghosts as OfInput}
use Rattle.pt_folder.specs.declared.system.System.{Ghosts as OfSystem}
use Rattle.pt_tree.specs.Ignoring.{told_without}
use Rattle.pt_plan.specs.DeviceStates.{DeviceStates}
use Rattle.pt_tree.specs.Dest.{Writing}

module _ {S F D : Type 0} {sys : OfSystem S F D} {handle : OfHandle F} {file : OfInput F}
    {dir : OfInput D} where
  -- it is the folder of this system at this path, which is read
  abbrev pub ReadsFrom : HostSource S F D sys handle file dir → S → List ℕ → Type 0
  ReadsFrom source system path = (store_system source ≡ system) × (store_path source ≡ path)

  -- and of one that is written into
  abbrev pub WritesInto : HostDest S F D sys handle file dir → S → List ℕ → Type 0
  WritesInto dest system path = (dest_system dest ≡ system) × (dest_path dest ≡ path)

  -- what a folder that is written into tells with no file open and nothing unsynced
  abbrev pub told_at_rest : HostDest S F D sys handle file dir → Option Writing
  told_at_rest dest = told_with (kept_by dest) None None

-- states whose source is seen without the entries of these names
abbrev pub seen_without : List (List ℕ) → DeviceStates → DeviceStates
seen_without names states = record states { source = told_without names states.source }
