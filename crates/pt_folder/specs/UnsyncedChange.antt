-- What a call left that failed after the system had done its part.
use Rattle.std.specs.Prelude.{Bool, true, false, Option, None, Some, Result, Ok, Err}
use Rattle.std.specs.declared.io.Error.{Error}
use Rattle.pt_tree.specs.Path.{Path}
use Rattle.pt_tree.specs.declared.faults.TreeFault.{TreeFault}
use Rattle.pt_folder.specs.declared.unsynced_change.UnsyncedChange.{UnsyncedChange}
use Rattle.pt_folder.specs.declared.unsynced_change.UnsyncedChange.TheVariants as unsynced
use Rattle.pt_folder.specs.declared.writing.FileInWriting.{FileInWriting}

-- what is unsynced where the last part of a call, to put it onto the disk, was answered so
abbrev pub unless_done : UnsyncedChange → Result (Unit {0}) TreeFault → Option UnsyncedChange
unless_done s (Ok x) = None
unless_done s (Err e) = Some s

-- the same by the answer of the part before it: nothing, where that failed
abbrev pub unsynced_after : Result (Unit {0}) Error → UnsyncedChange → Result (Unit {0}) TreeFault → Option UnsyncedChange
unsynced_after (Ok x) s result = unless_done s result
unsynced_after (Err e) s result = None

-- what is unsynced after the open file was closed: that, where it couldn't be put onto the disk
abbrev pub unsynced_by_close : {F : Type 0} → Option UnsyncedChange → Option (FileInWriting F)
    → Result (Unit {0}) TreeFault → Option UnsyncedChange
unsynced_by_close before None result = before
unsynced_by_close before (Some w) (Ok x) = before
unsynced_by_close before (Some w) (Err e) = Some (unsynced.Closed w.path)

-- the same of a call that is refused where something is unsynced
abbrev pub unsynced_by_finish : {F : Type 0} → Option UnsyncedChange → Option (FileInWriting F)
    → Result (Unit {0}) TreeFault → Option UnsyncedChange
unsynced_by_finish (Some s) w result = Some s
unsynced_by_finish None w result = unsynced_by_close None w result

-- the open file after that call
abbrev pub open_if_unsynced : {F : Type 0} → Option UnsyncedChange → Option (FileInWriting F) → Option (FileInWriting F)
open_if_unsynced (Some s) w = w
open_if_unsynced None w = None

-- a move whose directory is to be put onto the disk
abbrev pub move_to_sync : Bool → Path → Path → Option UnsyncedChange
move_to_sync true from to = Some (unsynced.Moved from to)
move_to_sync false from to = None
