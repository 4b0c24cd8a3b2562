-- What a run says of its source and its destination when it refuses them, and what it leaves of them.
use Rattle.std.specs.Prelude.{◌≡◌, ◌≢◌, ℕ, Bool, true, false, List, [], Some, Err, is_some, slice_get, ⊤}
use Rattle.pt_object.specs.FilePaths.{File}
use Rattle.pt_object.specs.Holding.{IsFree}
use Rattle.pt_object.specs.RootFiles.{root_files_of}
use Rattle.pt_object.specs.Scripts.{staging}
use Rattle.pt_tree.specs.Dest.{Writing}
use Rattle.pt_tree.specs.Forest.{Forest}
use Rattle.pt_tree.specs.Source.{Reading}
use Rattle.pt_tree.specs.Tree.{Bytes, Folder, IsTree, Tree}
use Rattle.pt_plan.specs.Carried.{Carried, is_folder_or_free, is_way_free}
use Rattle.pt_plan.specs.Faults.{IsCarriedAs}
use Rattle.pt_plan.specs.Job.{Job}
use Rattle.pt_plan.specs.RerunLaws.{IsTarget}
use Rattle.pt_plan.specs.Roots.{root_in}
use Rattle.pt_plan.specs.Run.{Kept, Run, turning}
use Rattle.pt_plan.specs.Store.{has_prefix, is_store}
use Rattle.pt_plan.specs.Turn.{Turn}
use Rattle.pt_plan.specs.DeviceStates.{DeviceStates}
use Rattle.pt_plan.specs.declared.fault.Fault.{Fault}
use Rattle.pt_plan.specs.declared.fault.Fault.TheVariants as fault
use Rattle.pt_invariant.specs.RunInvariant.{RunInvariant, Start}

-- it is no store; it is one, but its prefix isn't good; a destination is refused only after it was found to be one with a good prefix; no file of it
-- changes while it is read, so for that none is refused
abbrev pub SaysOfSource : Fault → Forest → Type 0
SaysOfSource fault.NotPairtree source = is_store source ≡ false
SaysOfSource fault.Prefix source = (is_store source ≡ true) × (has_prefix source ≡ false)
SaysOfSource fault.StagingLeft source = (is_store source ≡ true) × (has_prefix source ≡ true)
SaysOfSource fault.Target source = (is_store source ≡ true) × (has_prefix source ≡ true)
SaysOfSource fault.Changed source = ⊥
SaysOfSource _ source = ⊤

-- a turn that halts the run says so rightly, where the source tells
abbrev pub RefusesRightly : Type 0
RefusesRightly =
    (job : Job) (start : Start) (old new : DeviceStates) (run : Run) (after : Kept) (why : Fault)
    (s : Reading) → RunInvariant job start old run
    → Turn job run.phase (turning run.kept) after old new (Err why) → old.source ≡ Some s
    → SaysOfSource why s.tree

-- where the destination tells, a run halts for what stands at `staging` only where something stood there at the start
abbrev pub FindsStaging : Type 0
FindsStaging =
    (job : Job) (start : Start) (old new : DeviceStates) (run : Run) (after : Kept) (t : Tree)
    → RunInvariant job start old run
    → Turn job run.phase (turning run.kept) after old new (Err fault.StagingLeft)
    → start.dest ≡ Some t → is_some (t staging) ≡ true

-- ---- a root that can't be gone on with

-- what stands at its top is no folder; or that is one, and a file of the layout isn't there with its bytes; or what stands on the way to the place of
-- one of these objects is no folder
pub data IsBadTarget (job : Job) (root : Tree) (objects : Carried → Type 0) : Type 0 where
  IsNoFolder : is_folder_or_free (root []) ≡ false → IsBadTarget job root objects
  HasOtherFile : (number : ℕ) (file : File) → root [] ≡ Some Folder
      → slice_get (root_files_of job.tuples) number ≡ Some file → root file.0 ≢ Some (Bytes file.1)
      → IsBadTarget job root objects
  IsBarred : (object : Carried) → objects object → is_way_free job root object ≡ false
      → IsBadTarget job root objects

-- the object is carried of the source
abbrev pub IsCarriedOf : Job → Forest → Tree → Carried → Type 0
IsCarriedOf job source root object = (k : ℕ) × IsCarriedAs job source root k object

-- where the destination tells, a run halts for it only where nothing stood at `staging` and its root can't be gone on with
abbrev pub FindsTarget : Type 0
FindsTarget =
    (job : Job) (start : Start) (old new : DeviceStates) (run : Run) (after : Kept) (t : Tree)
    → RunInvariant job start old run
    → Turn job run.phase (turning run.kept) after old new (Err fault.Target) → start.dest ≡ Some t
    → IsFree t staging × IsBadTarget job (root_in t) (λ object. ⊤)

-- where the source tells too, an object whose way is barred is one that is carried
abbrev pub FindsTargetOf : Type 0
FindsTargetOf =
    (job : Job) (start : Start) (old new : DeviceStates) (run : Run) (after : Kept) (s : Reading)
    (t : Tree) → RunInvariant job start old run
    → Turn job run.phase (turning run.kept) after old new (Err fault.Target) → old.source ≡ Some s
    → start.dest ≡ Some t
    → IsFree t staging × IsBadTarget job (root_in t) (IsCarriedOf job s.tree (root_in t))

-- ---- what is left

-- a halt for what the source is, or for what stands at `staging`
abbrev pub is_early : Fault → Bool
is_early fault.NotPairtree = true
is_early fault.Prefix = true
is_early fault.StagingLeft = true
is_early _ = false

-- where the destination tells, it is as it was at the start after such a halt
abbrev pub EarlyLeavesDest : Type 0
EarlyLeavesDest =
    (job : Job) (start : Start) (old new : DeviceStates) (run : Run) (after : Kept) (why : Fault) (t : Tree)
    (now : Writing) → RunInvariant job start old run
    → Turn job run.phase (turning run.kept) after old new (Err why) → is_early why ≡ true
    → start.dest ≡ Some t → new.dest ≡ Some now → now.tree ≡ t

-- and so is a log that tells
abbrev pub EarlyLeavesLog : Type 0
EarlyLeavesLog =
    (job : Job) (start : Start) (old new : DeviceStates) (run : Run) (after : Kept) (why : Fault)
    (first last : List ℕ) → RunInvariant job start old run
    → Turn job run.phase (turning run.kept) after old new (Err why) → is_early why ≡ true
    → start.log ≡ Some first → new.log ≡ Some last → last ≡ first

-- ---- so it can't end well

-- over a root that can't be gone on with, where an object is meant that is carried, no run of this source can end well
abbrev pub BadTargetIsNone : Type 0
BadTargetIsNone = (job : Job) (source : Forest) (t : Tree) → IsTree t
    → IsBadTarget job (root_in t) (IsCarriedOf job source (root_in t))
    → IsTarget job source (root_in t) → ⊥
