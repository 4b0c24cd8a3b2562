-- What a run asks of its destination.
use Rattle.std.specs.Prelude.{◌≡◌, ◌+◌, ℕ, Bool, true, false, List, None}
use Rattle.pt_folder.specs.HostDest.{failures_of, folder_path, lasting, longest_of, unsynced_of, synced_of, system_of, writing_of}
use Rattle.pt_folder.specs.Steps.{Steps}
use Rattle.pt_folder.specs.declared.dest.HostDest.{HostDest}
use Rattle.pt_folder.specs.declared.system.Handle.{Ghosts as OfHandle}
use Rattle.pt_folder.specs.declared.system.Input.{Ghosts as OfInput}
use Rattle.pt_folder.specs.declared.system.System.{Ghosts as OfSystem}
use Rattle.pt_rehearsal.specs.Calls.{Calls, dest_of, memory_of}
use Rattle.pt_rehearsal.specs.Seeing.{nothing}
use Rattle.pt_rehearsal.specs.declared.rehearsal.Rehearsal.{Rehearsal}
use Rattle.pt_host.specs.Room.{place_overhead}
use Rattle.pt_host.specs.declared.options.RunOptions.{RunOptions}

module _ {S F D : Type 0} {sys : OfSystem S F D} {handle : OfHandle F} {file : OfInput F}
    {dir : OfInput D} where
  -- a rehearsal over a destination, set as that is, of which nothing is unsynced; it remembers nothing
  pub record BeginsOver (dest : HostDest S F D sys handle file dir) (first : Rehearsal S F D sys handle file dir)
      : Type 0 where
    pub still : lasting (dest_of first) ≡ lasting dest
    pub longest : longest_of (dest_of first) ≡ longest_of dest
    pub unsynced : unsynced_of (dest_of first) ≡ None
    pub empty : memory_of first ≡ nothing

  -- calls of a rehearsal over one destination lead to another, each by what is remembered then
  abbrev pub IsRehearsed : (old new : HostDest S F D sys handle file dir) → Type 0
  IsRehearsed old new = (first last : Rehearsal S F D sys handle file dir)
      × BeginsOver old first × Calls first last × (new ≡ dest_of last)

  -- calls lead from one destination to another, each as it is set; or those of a rehearsal over it do
  abbrev pub IsServed : Bool → (old new : HostDest S F D sys handle file dir) → Type 0
  IsServed true old new = IsRehearsed old new
  IsServed false old new = Steps old new

  -- the same to one over this system, at which so many calls failed
  abbrev pub ServesTo : Bool → HostDest S F D sys handle file dir → S → ℕ → Type 0
  ServesTo rehearse old system failed =
      (new : HostDest S F D sys handle file dir) × IsServed rehearse old new × (system_of new ≡ system)
      × (failures_of new ≡ failed)

  -- a destination over this folder of a system, of which nothing was asked, set as its options say: whether files are put onto
  -- the disk, and the greatest length of a path, which leaves room at the longest place
  pub record IsSetUp (options : RunOptions) (folder : List ℕ) (system : S)
      (dest : HostDest S F D sys handle file dir) : Type 0 where
    pub over : (system_of dest ≡ system) × (folder_path dest ≡ folder)
    pub begun : (writing_of dest ≡ None) × (unsynced_of dest ≡ None)
    pub unfailed : failures_of dest ≡ 0
    pub synced : synced_of dest ≡ options.sync
    pub longest : longest_of dest + place_overhead options.job.layout ≡ 4095

-- what a run leaves of the destination's system, by the words of that: what calls leave of a destination that is set as the options say,
-- of which so many failed
abbrev pub Serves : {S F D : Type 0} (sys : OfSystem S F D) → OfHandle F → OfInput F → OfInput D
    → RunOptions
    → List ℕ → S → S → ℕ → Type 0
Serves {S} {F} {D} sys handle file dir options folder old new failed =
    (dest : HostDest S F D sys handle file dir) × IsSetUp options folder old dest
    × ServesTo options.rehearse dest new failed
