-- The calls of a folder that is read, one after another.
use Rattle.std.specs.Prelude.{◌≡◌, ℕ, List, Option, IfErr, IfOk, Result, Err, Vec}
use Rattle.std.specs.Global.{Global}
use Rattle.pt_folder.specs.Calls.{Change}
use Rattle.pt_folder.specs.HostSource.{CannotList, CannotListPast, IsCall, IsReading, IsSameFolder, Lists, ListsPast, Looks, Opens, Reads}
use Rattle.pt_folder.specs.HostSource.{is_same_folder, same_folder_on, system_of}
use Rattle.pt_folder.specs.declared.source.HostSource.{HostSource}
use Rattle.pt_folder.specs.declared.system.Handle.{Ghosts as OfHandle}
use Rattle.pt_folder.specs.declared.system.Input.{Ghosts as OfInput}
use Rattle.pt_folder.specs.declared.system.System.{Ghosts as OfSystem}
use Rattle.pt_host.specs.Devices.{ReadsFrom}
use Rattle.pt_tree.specs.Listing.{Item}
use Rattle.pt_tree.specs.Path.{Path}
use Rattle.pt_tree.specs.declared.faults.TreeFault.{TreeFault}
use Rattle.pt_tree.specs.declared.faults.TreeFault.TheVariants.{Device}
use Rattle.pt_tree.specs.declared.kind.Kind.{Kind}

module _ {S F D : Type 0} {sys : OfSystem S F D} {handle : OfHandle F} {file : OfInput F}
    {dir : OfInput D} where
  -- one call, with what it asks of the system, and how it was answered
  pub data ReadStep (old new : HostSource S F D sys handle file dir) : Type 0 where
    lists : (p : Path) (result : Result (List Item) TreeFault) → IfOk result (Lists old new p)
        → IfErr result (CannotList old new p) → IsCall old new result → ReadStep old new
    lists_past : (p : Path) (refused : Change (List (Vec ℕ Global))) (result : Result (List Item) TreeFault)
        → IfOk result (ListsPast old new p refused.new) → IfErr result (CannotListPast old new p refused)
        → IsCall old new result → ReadStep old new
    looks : (p : Path) (result : Result (Option Kind) TreeFault) → Looks old new p result
        → IsCall old new result → ReadStep old new
    opens : (p : Path) (result : Result (Unit {0}) TreeFault) → Opens old new p result
        → IsCall old new result → ReadStep old new
    reads : (block : List ℕ) (result : Result (Unit {0}) TreeFault) → Reads old new block result
        → IsReading old new result → ReadStep old new

  -- any number of them
  pub data ReadSteps (first : HostSource S F D sys handle file dir) : HostSource S F D sys handle file dir → Type 0 where
    none : ReadSteps first first
    next : (mid last : HostSource S F D sys handle file dir) → ReadSteps first mid → ReadStep mid last
        → ReadSteps first last

  -- and those after them
  pub read_steps_on : (a b c : HostSource S F D sys handle file dir) → ReadSteps a b → ReadSteps b c → ReadSteps a c
  read_steps_on a b _ p none = p
  read_steps_on a b c p (next mid _ q last) = next mid c (read_steps_on a b mid p q) last

  -- this call failed: a call of the system that it made did, or it was refused, as the call says
  abbrev pub IsFailedRead : (old new : HostSource S F D sys handle file dir) → ReadStep old new → Type 0
  IsFailedRead old new (lists p result listed fault call) = result ≡ Err Device
  IsFailedRead old new (lists_past p refused result listed fault call) = result ≡ Err Device
  IsFailedRead old new (looks p result asked call) = result ≡ Err Device
  IsFailedRead old new (opens p result asked call) = result ≡ Err Device
  IsFailedRead old new (reads block result asked call) = result ≡ Err Device

  -- of the calls from one to another this one failed
  pub record HasFailedRead (first last : HostSource S F D sys handle file dir) : Type 0 where
    pub old : HostSource S F D sys handle file dir
    pub new : HostSource S F D sys handle file dir
    pub before : ReadSteps first old
    pub step : ReadStep old new
    pub failed : IsFailedRead old new step
    pub after : ReadSteps new last

  -- it is the same folder still, as its calls left it
  pub record IsStepped (old new : HostSource S F D sys handle file dir) : Type 0 where
    pub same : IsSameFolder old new
    pub steps : ReadSteps old new

  -- so it is where nothing was called
  pub stepped_itself : (s : HostSource S F D sys handle file dir) → IsStepped s s
  stepped_itself s = record { same = is_same_folder s; steps = none }

  -- and so it goes on
  pub stepped_on : (a b c : HostSource S F D sys handle file dir) → IsStepped a b → IsStepped b c → IsStepped a c
  stepped_on a b c p q = record {
    same = same_folder_on a b c p.same q.same;
    steps = read_steps_on a b c p.steps q.steps;
  }

-- a call of the folder at a path failed, of those that led from this system to that, by the words of the system
abbrev pub FailsBetween : {S F D : Type 0} (sys : OfSystem S F D) → OfHandle F → OfInput F → OfInput D → List ℕ → S → S → Type 0
FailsBetween {S} {F} {D} sys handle file dir path old new = (first last : HostSource S F D sys handle file dir)
    × ReadsFrom first old path × HasFailedRead first last × (system_of last ≡ new)
