-- The calls of a destination, one after another.
use Rattle.std.specs.Prelude.{◌≡◌, ℕ, List, Option, OnErr, OnOk, Result}
use Rattle.pt_tree.specs.Path.{Path}
use Rattle.pt_tree.specs.declared.faults.TreeFault.{TreeFault}
use Rattle.pt_tree.specs.declared.kind.Kind.{Kind}
use Rattle.pt_folder.specs.Calls.{LeadsToKind}
use Rattle.pt_folder.specs.HostDest.{Closes, IsCall, IsLook, IsOtherCall, IsSame, Looks, MakesDir, MakesFile, Moves, Peeks, Writes}
use Rattle.pt_folder.specs.UnsyncedChange.{open_if_unsynced, unsynced_by_finish}
use Rattle.pt_folder.specs.Writing.{open_unless_within}
use Rattle.pt_folder.specs.declared.dest.HostDest.{HostDest}
use Rattle.pt_folder.specs.declared.system.Handle.{Ghosts as OfHandle}
use Rattle.pt_folder.specs.declared.system.Input.{Ghosts as OfInput}
use Rattle.pt_folder.specs.declared.system.System.{Ghosts as OfSystem}

module _ {S F D : Type 0} {sys : OfSystem S F D} {handle : OfHandle F} {file : OfInput F}
    {dir : OfInput D} where
  -- one call, with what it asks of the system by the destination's settings, and the file that is open then
  pub data Step (old new : HostDest S F D sys handle file dir) : Type 0 where
    looks : (p : Path) (result : Result (Option Kind) TreeFault) → Looks LeadsToKind old new p result
        → IsLook old new result → Step old new
    peeks : (p : Path) (block : List ℕ) (result : Result (Unit {0}) TreeFault)
        → Peeks old new p block result → IsOtherCall old new result → Step old new
    makes_dir : (p : Path) (result : Result (Unit {0}) TreeFault) → MakesDir old new p result
        → IsOtherCall old new result → Step old new
    makes_file : (p : Path) (result : Result (Unit {0}) TreeFault) → MakesFile old new p result
        → IsCall old new old.unsynced result → Step old new
    writes : (piece : List ℕ) (result : Result (Unit {0}) TreeFault) → Writes old new piece result
        → IsCall old new old.unsynced result → Step old new
    closes : (result : Result (Unit {0}) TreeFault) → Closes old result
        → new.writing ≡ open_if_unsynced old.unsynced old.writing → new.syscalls.system ≡ old.syscalls.system
        → IsCall old new (unsynced_by_finish old.unsynced old.writing result) result → Step old new
    moves : (from to : Path) (result : Result (Unit {0}) TreeFault) → Moves old new from to result
        → OnErr result (new.writing ≡ old.writing)
        → OnOk result (new.writing ≡ open_unless_within from old.writing)
        → IsCall old new new.unsynced result → Step old new

  -- any number of them
  pub data Steps (first : HostDest S F D sys handle file dir) : HostDest S F D sys handle file dir → Type 0 where
    none : Steps first first
    next : (mid last : HostDest S F D sys handle file dir) → Steps first mid → Step mid last
        → Steps first last

  -- and those after them
  pub steps_on : (a b c : HostDest S F D sys handle file dir) → Steps a b → Steps b c → Steps a c
  steps_on a b _ p none = p
  steps_on a b c p (next mid _ q last) = next mid c (steps_on a b mid p q) last

  -- the same folder with the same settings, after any number of calls
  abbrev pub Serves : (old new : HostDest S F D sys handle file dir) → Type 0
  Serves old new = IsSame old new × Steps old new
