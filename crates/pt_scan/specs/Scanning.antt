-- What the turns of the scan ask, and what their parts come to, over the states of the devices.
use Rattle.std.specs.Prelude.{◌≡◌, ◌<◌, ◌≤◌, ◌==◌, ◌^◌, ℕ, Bool, false, IfErr, IfOk, IsSome, IsTrue, List, Option, [], Ok, OnErr, OnOk, Result, Some, length}
use Rattle.std.specs.String.{string_bytes}
use Rattle.pt_tree.specs.Listing.{Item}
use Rattle.pt_tree.specs.Source.{Reading}
use Rattle.pt_tree.specs.declared.kind.Kind.TheVariants as kind
use Rattle.pt_walk.specs.Trail.{current_entry, entered, is_dir_entry, names_to, sought, trail_path}
use Rattle.pt_walk.specs.declared.cause.Cause.{Cause}
use Rattle.pt_walk.specs.declared.cause.Cause.TheVariants as cause
use Rattle.pt_walk.specs.declared.frame.Frame.{Frame}
use Rattle.pt_plan.specs.Run.{with_trail}
use Rattle.pt_plan.specs.Lines.{Skipped}
use Rattle.pt_plan.specs.Enabled.{MayEnter}
use Rattle.pt_plan.specs.Turn.{Did, FailsPartway, FailsUnchanged}
use Rattle.pt_plan.specs.TurnScan.{ScanStep, back_at_site, is_passed, own_listings, skipped, to_site, with_directory}
use Rattle.pt_plan.specs.TurnWalk.{in_pairtree}
use Rattle.pt_plan.specs.DeviceStates.{Lists, DeviceStates, asks, tells}
use Rattle.pt_plan.specs.declared.fault.Fault.{Fault}
use Rattle.pt_plan.specs.declared.object.Object.{Object}
use Rattle.pt_plan.specs.declared.phase.Phase.{Phase}
use Rattle.pt_plan.specs.declared.phase.Phase.TheVariants as phase
use Rattle.pt_plan.specs.declared.phase.Stage.TheVariants as stage
use Rattle.pt_state.specs.Lines.{with_skipped}
use Rattle.pt_state.specs.States.{KeepsAll, held_of, job_of}
use Rattle.pt_state.specs.declared.job.Report.{Report}
use Rattle.pt_state.specs.declared.outside.Io.{Ghosts as OfOutside}
use Rattle.pt_state.specs.declared.state.State.{State}

-- the object's site is on the trail
unfoldable pub IsSite : Object → List Frame → Type 0
IsSite object trail = (0 < object.site) × (object.site ≤ length trail)

-- and a skip line of it can be counted
pub record CanPassOver (object : Object) (s : State) : Type 0 where
  pub site : IsSite object s.trail
  pub few : s.counts.skipped < 2 ^ 40

-- listings of the object's own are on the trail too
pub record IsInObject (object : Object) (trail : List Frame) : Type 0 where
  pub site : IsSite object trail
  pub own : 0 < own_listings object trail

-- the trail is at an entry of them
pub record IsAtEntry (object : Object) (trail : List Frame) : Type 0 where
  pub site : IsSite object trail
  pub own : 0 < own_listings object trail
  pub entry : IsSome (current_entry trail)

-- a run that scans the object may do so
pub record CanScan (object : Object) (s : State) : Type 0 where
  pub site : IsSite object s.trail
  pub own : 0 < own_listings object s.trail
  pub few : s.counts.skipped < 2 ^ 40

-- and one that reads a file of it, of which so many bytes were read
pub record CanReadOn (object : Object) (bytes : ℕ) (s : State) : Type 0 where
  pub site : IsSite object s.trail
  pub own : 0 < own_listings object s.trail
  pub entry : IsSome (current_entry s.trail)
  pub few : s.counts.skipped < 2 ^ 40
  pub short : bytes ≤ 2 ^ 43

-- the entry at the trail's place is a directory of the object
unfoldable pub IsAtDirectory : Object → List Frame → Type 0
IsAtDirectory object trail = (name : List ℕ)
    × ((current_entry trail ≡ Some (name, kind.Dir))
    × (is_passed object trail (name, kind.Dir) ≡ false))

-- it is a directory, which may be listed and entered
pub record CanEnter (told : Option Reading) (trail : List Frame) : Type 0 where
  pub directory : IsTrue (is_dir_entry (current_entry trail))
  pub may : MayEnter told trail

-- it is a file
unfoldable pub IsAtFile : List Frame → Type 0
IsAtFile trail = (name : List ℕ) × (current_entry trail ≡ Some (name, kind.File))

-- at this phase the object is to be passed over for this cause
unfoldable pub GivesUp : Phase → Object → Cause → State → Type 0
GivesUp here object why s = (fed : List ℕ)
    → ScanStep (job_of s.job) here (held_of s fed) (back_at_site object (held_of s fed))
    (tells (skipped object (held_of s fed) why)) (Ok phase.Walk)

-- at this phase the directory at the trail's place is to be entered
unfoldable pub EntersNext : Phase → Object → State → Type 0
EntersNext here object s = (fed : List ℕ) (items : List Item)
    → ScanStep (job_of s.job) here (held_of s fed) (with_trail (held_of s fed) (entered items s.trail))
    (asks (Lists (in_pairtree (names_to s.trail)) items))
    (Ok (phase.Carrying (with_directory object items) stage.Scan))

-- at this phase it is met: where it is too deep the object is passed over for that, and else it is entered
pub record MeetsDirectory (here : Phase) (object : Object) (s : State) : Type 0 where
  pub deep : s.job.limits.depth < length s.trail → GivesUp here object cause.Limit s
  pub shallow : length s.trail ≤ s.job.limits.depth → EntersNext here object s

-- the trail and the counts are these, and all else but the block is as it was
pub record Moved (trail : List Frame) (counts : Report) (s s' : State) : Type 0 where
  pub job : s'.job ≡ s.job
  pub prefix : string_bytes s'.prefix ≡ string_bytes s.prefix
  pub trail_is : s'.trail ≡ trail
  pub rows : s'.rows ≡ s.rows
  pub contents : s'.contents ≡ s.contents
  pub counts_are : s'.counts ≡ counts
  pub hasher : s'.hasher ≡ s.hasher
  pub unmet : s'.unmet ≡ s.unmet

-- it stands at the object's site again and holds nothing of the object, of which a skip line was counted
pub record IsBackAtSite (object : Object) (s s' : State) : Type 0 where
  pub job : s'.job ≡ s.job
  pub prefix : string_bytes s'.prefix ≡ string_bytes s.prefix
  pub trail : s'.trail ≡ sought 0 (to_site object s.trail)
  pub rows : s'.rows ≡ []
  pub contents : s'.contents ≡ []
  pub counts : s'.counts ≡ with_skipped s.counts
  pub hasher : s'.hasher ≡ s.hasher
  pub unmet : s'.unmet ≡ s.unmet

-- the directory at the trail's place was listed and entered, and this says whether it has no entries
pub record Enters (s s' : State) (old new : DeviceStates) (is_empty : Bool) : Type 0 where
  pub items : List Item
  pub listed : Did (asks (Lists (in_pairtree (names_to s.trail)) items)) old new
  pub empty : is_empty ≡ (length items == 0)
  pub moved : Moved (entered items s.trail) s.counts s s'

-- that it was entered, or failed to be listed, and all that is held is as it was
pub record Entered {O : Type 0} (of : OfOutside O) (old new : State × O)
    (result : Result Bool Fault) : Type 0 where
  pub did : IfOk result (Enters old.0 new.0 (of.states old.1) (of.states new.1))
  pub failed : IfErr result (λ why. FailsUnchanged why (of.states old.1) (of.states new.1))
  pub same : OnErr result (KeepsAll old.0 new.0)
  pub few : of.within 1 0 old.1 new.1

-- that the object was passed over for this cause, or a front of its line was put, and all that is held is as it was
pub record GaveUp {O T : Type 0} (of : OfOutside O) (object : Object) (why : Cause)
    (old new : State × O) (result : Result T Fault) : Type 0 where
  pub did : OnOk result (Did (tells (Skipped (trail_path (to_site object old.0.trail)) why))
      (of.states old.1) (of.states new.1))
  pub back : OnOk result (IsBackAtSite object old.0 new.0)
  pub left : IfErr result (λ f. FailsPartway (tells (Skipped (trail_path (to_site object old.0.trail)) why)) f
      (of.states old.1) (of.states new.1))
  pub same : OnErr result (KeepsAll old.0 new.0)
  pub few : of.within 0 0 old.1 new.1
