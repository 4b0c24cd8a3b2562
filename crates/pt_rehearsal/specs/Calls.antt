-- The calls of a rehearsal, one after another.
use Rattle.std.specs.Prelude.{◌≡◌, ◌⊎◌, ℕ, List, None, Option, Result}
use Rattle.pt_folder.specs.Calls.{CannotMake}
use Rattle.pt_folder.specs.Failure.{OnDevice}
use Rattle.pt_folder.specs.HostDest.{folder_path, longest_of, system_of}
use Rattle.pt_folder.specs.declared.dest.HostDest.{HostDest}
use Rattle.pt_folder.specs.declared.system.Handle.{Ghosts as OfHandle}
use Rattle.pt_folder.specs.declared.system.Input.{Ghosts as OfInput}
use Rattle.pt_folder.specs.declared.system.System.{Ghosts as OfSystem}
use Rattle.pt_rehearsal.specs.Rehearsal.{IsCall, IsSame, LooksUnlessKnown, PeeksUnlessKnown}
use Rattle.pt_rehearsal.specs.SameFolder.{LooksAtFolder, MissesFolder}
use Rattle.pt_rehearsal.specs.Seeing.{Remembers, View, made_dir, made_file, moved_to, view}
use Rattle.pt_rehearsal.specs.declared.rehearsal.Rehearsal.{Rehearsal}
use Rattle.pt_tree.specs.Path.{Path}
use Rattle.pt_tree.specs.declared.faults.TreeFault.{TreeFault}
use Rattle.pt_tree.specs.declared.kind.Kind.{Kind}

module _ {S F D : Type 0} {sys : OfSystem S F D} {handle : OfHandle F} {file : OfInput F}
    {dir : OfInput D} where
  -- the destination that it looks at
  abbrev pub dest_of : Rehearsal S F D sys handle file dir → HostDest S F D sys handle file dir
  dest_of r = r.dest

  -- what it remembers, as seen
  abbrev pub memory_of : Rehearsal S F D sys handle file dir → View
  memory_of r = view r.remembered

  -- why a directory isn't made: the folder itself isn't there, or its path is too long, or it can't be remembered
  abbrev pub NoDirMade : (old new : Rehearsal S F D sys handle file dir) → Path → Type 0
  NoDirMade old new p =
      MissesFolder old.dest new.dest
      ⊎ (CannotMake (longest_of old.dest) (folder_path old.dest) p ⊎ (made_dir (memory_of old) p ≡ None))

  -- why a file isn't made: its path is too long, or it can't be remembered
  abbrev pub NoFileMade : Rehearsal S F D sys handle file dir → Path → Type 0
  NoFileMade old p =
      CannotMake (longest_of old.dest) (folder_path old.dest) p ⊎ (made_file (memory_of old) p ≡ None)

  -- one call, with what it asks of the system, why it is refused where it is, and what is remembered then
  pub data Call (old new : Rehearsal S F D sys handle file dir) : Type 0 where
    looks : (p : Path) (result : Result (Option Kind) TreeFault) → LooksUnlessKnown old new p result
        → new.remembered ≡ old.remembered → IsCall old new result → Call old new
    peeks : (p : Path) (block : List ℕ) (result : Result (Unit {0}) TreeFault)
        → PeeksUnlessKnown old new p block result → new.remembered ≡ old.remembered
        → IsCall old new result → Call old new
    makes_dir : (p : Path) (result : Result (Unit {0}) TreeFault) → LooksAtFolder old.dest new.dest p result
        → OnDevice result (NoDirMade old new p)
        → Remembers (made_dir (memory_of old) p) result (memory_of old) (memory_of new)
        → IsCall old new result → Call old new
    makes_file : (p : Path) (result : Result (Unit {0}) TreeFault) → system_of new.dest ≡ system_of old.dest
        → OnDevice result (NoFileMade old p)
        → Remembers (made_file (memory_of old) p) result (memory_of old) (memory_of new)
        → IsCall old new result → Call old new
    writes : (piece : List ℕ) → new.dest ≡ old.dest → new.remembered ≡ old.remembered → Call old new
    closes : new.dest ≡ old.dest → new.remembered ≡ old.remembered → Call old new
    moves : (from to : Path) (result : Result (Unit {0}) TreeFault)
        → system_of new.dest ≡ system_of old.dest
        → OnDevice result (moved_to (memory_of old) from to ≡ None)
        → Remembers (moved_to (memory_of old) from to) result (memory_of old) (memory_of new)
        → IsCall old new result → Call old new

  -- any number of them
  pub data Calls (first : Rehearsal S F D sys handle file dir) : Rehearsal S F D sys handle file dir → Type 0 where
    none : Calls first first
    next : (mid last : Rehearsal S F D sys handle file dir) → Calls first mid → Call mid last
        → Calls first last

  -- and those after them
  pub calls_on : (a b c : Rehearsal S F D sys handle file dir) → Calls a b → Calls b c → Calls a c
  calls_on a b _ p none = p
  calls_on a b c p (next mid _ q last) = next mid c (calls_on a b mid p q) last

  -- it leaves all that it is over, after any number of calls
  abbrev pub Rehearses : (old new : Rehearsal S F D sys handle file dir) → Type 0
  Rehearses old new = IsSame old new × Calls old new
