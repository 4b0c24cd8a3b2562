-- What a run that ended says and leaves, where the devices tell.
use Rattle.std.specs.Prelude.{◌≡◌, ◌<◌, ◌≤◌, ℕ, true, All, List, [], ◌++◌, Option, Some, is_some, ⊤}
use Rattle.pt_object.specs.Holding.{IsFree}
use Rattle.pt_object.specs.Scripts.{staging}
use Rattle.pt_tree.specs.Dest.{Writing}
use Rattle.pt_tree.specs.Forest.{Forest}
use Rattle.pt_tree.specs.Tree.{Tree}
use Rattle.pt_plan.specs.Carried.{IsStart, all_carried}
use Rattle.pt_plan.specs.Job as plan
use Rattle.pt_plan.specs.Lines.{all_lines, end_line}
use Rattle.pt_plan.specs.Roots.{root_in}
use Rattle.pt_plan.specs.Run.{Counts}
use Rattle.pt_plan.specs.TurnPlace.{last_line}
use Rattle.pt_plan.specs.WholeLaws.{HasItsFiles}
use Rattle.pt_invariant.specs.RunInvariant.{Start}
use Rattle.pt_plan.specs.Work.{work}
use Rattle.pt_plan.specs.DeviceStates.{Failures}
use Rattle.pt_invariant.specs.SourceInvariant.{IsWithinBound}
use Rattle.pt_invariant.specs.EndLaws.{IsEnd}
use Rattle.pt_invariant.specs.GoodStart.{NoneRose}
use Rattle.pt_invariant.specs.FaultState.{FaultStateAndLog}
use Rattle.pt_invariant.specs.RefusalLaws.{IsBadTarget, IsCarriedOf, SaysOfSource}
use Rattle.pt_invariant.specs.StillLaws.{StandsStill}
use Rattle.pt_state.specs.States.{counts_of, held_of, job_of}
use Rattle.pt_state.specs.declared.job.Job.{Job}
use Rattle.pt_state.specs.declared.job.Report.{Report}
use Rattle.pt_state.specs.declared.state.State.{State}
use Rattle.pt_plan.specs.declared.fault.Fault.{Fault}
use Rattle.pt_plan.specs.declared.fault.Fault.TheVariants as fault

-- from this source, and from these at the start: the root with all objects that are carried, nothing else changed, all their lines, and their numbers
abbrev pub IsWhole : plan.Job → Forest → Tree → Writing → List ℕ → List ℕ → Counts → Type 0
IsWhole job source start now first last counts =
    ((told : List ℕ) × (last ≡ first ++ told) × IsEnd job source start now.tree told)
    × (last_line counts ≡ end_line (all_lines job source (root_in start)))

-- what a run that ended well leaves, where all three tell
unfoldable pub EndsWhole : Job → Option Forest → Start → Option Writing → Option (List ℕ) → Report → Type 0
EndsWhole job source start dest log report =
    (s : Forest) (t : Tree) (now : Writing) (first last : List ℕ) → source ≡ Some s
    → start.dest ≡ Some t → dest ≡ Some now → start.log ≡ Some first → log ≡ Some last
    → IsWhole (job_of job) s t now first last (counts_of report)

-- and for each object that is carried the state of its version in the destination is its files, where no two of them whose bytes differ have one digest
unfoldable pub StatesAreFiles : Job → Option Forest → Start → Option Writing → Option (List ℕ) → Type 0
StatesAreFiles job source start dest log =
    (s : Forest) (t : Tree) (now : Writing) (first last : List ℕ) → source ≡ Some s
    → start.dest ≡ Some t → dest ≡ Some now → start.log ≡ Some first → log ≡ Some last
    → All (HasItsFiles (job_of job) now.tree) (all_carried (job_of job) s (root_in t))

-- what a run leaves that a fault ended, where all three tell: destination and log such as any fault may leave
unfoldable pub FaultStateTold : Job → Option Forest → Start → Option Writing → Option (List ℕ) → Type 0
FaultStateTold job source start dest log =
    (s : Forest) (t : Tree) (now : Writing) (first last : List ℕ) → source ≡ Some s
    → start.dest ≡ Some t → dest ≡ Some now → start.log ≡ Some first → log ≡ Some last
    → FaultStateAndLog (job_of job) s t now.tree first last

-- the destination is as it was at the start, where it tells, and so is the log
unfoldable pub LeavesAll : Start → Option Writing → Option (List ℕ) → Type 0
LeavesAll start dest log = ((t : Tree) (now : Writing) → start.dest ≡ Some t → dest ≡ Some now
    → now.tree ≡ t)
    × ((first last : List ℕ) → start.log ≡ Some first → log ≡ Some last → last ≡ first)

-- where the source is no store, or its prefix isn't good, or something stands at `staging`
abbrev pub IfEarly : Fault → Type 0 → Type 0
IfEarly fault.NotPairtree P = P
IfEarly fault.Prefix P = P
IfEarly fault.StagingLeft P = P
IfEarly _ P = ⊤

-- where the log failed
abbrev pub IfLog : Fault → Type 0 → Type 0
IfLog fault.Log P = P
IfLog _ P = ⊤

-- nothing stands at `staging`, where the destination tells
unfoldable pub LeavesNoStaging : Option Writing → Type 0
LeavesNoStaging dest = (now : Writing) → dest ≡ Some now → IsFree now.tree staging

-- what stood in the destination at the start stands, and what is new stands only at its two places, where it tells
unfoldable pub StandsStillIn : Option Tree → Option Writing → Type 0
StandsStillIn start now = (t : Tree) (w : Writing) → start ≡ Some t → now ≡ Some w → StandsStill t w.tree

-- no more turns were made than the work, where source and destination tell
unfoldable pub MadeWithinWork : Job → Option Forest → Option Tree → Report → Type 0
MadeWithinWork job source start report = (s : Forest) (t : Tree) → source ≡ Some s → start ≡ Some t
    → report.turns ≤ work (job_of job) s (root_in t)

-- no more is held than the source's bound, where it tells
unfoldable pub HoldsWithinBound : Job → Option Forest → State → Type 0
HoldsWithinBound job source state = (s : Forest) → source ≡ Some s
    → IsWithinBound (job_of job) s (held_of state [])

-- ---- refusals

-- a destination is refused for what stands at `staging` only where something stood there at the start, and for its root only where nothing stood
-- there and that root can't be gone on with
abbrev pub SaysOfDest : plan.Job → Fault → Tree → Type 0
SaysOfDest job fault.StagingLeft start = is_some (start staging) ≡ true
SaysOfDest job fault.Target start = IsFree start staging × IsBadTarget job (root_in start) (λ object. ⊤)
SaysOfDest job _ start = ⊤

-- of both: where the way to an object's place is barred, that object is one that is carried; and the limit of turns is met only where it is less than the work
abbrev pub SaysOfBoth : plan.Job → Fault → Forest → Tree → Type 0
SaysOfBoth job fault.Turns source start = job.limits.turns < work job source (root_in start)
SaysOfBoth job fault.Target source start =
    IsBadTarget job (root_in start) (IsCarriedOf job source (root_in start))
SaysOfBoth job _ source start = ⊤

-- a fault says so of the source where it tells, of the destination as it was at the start where that tells, and of both
unfoldable pub SaysRightly : Job → Option Forest → Option Tree → Fault → Type 0
SaysRightly job source dest f =
    ((s : Forest) → source ≡ Some s → SaysOfSource f s)
    × ((t : Tree) → dest ≡ Some t → SaysOfDest (job_of job) f t)
    × ((s : Forest) (t : Tree) → source ≡ Some s → dest ≡ Some t → SaysOfBoth (job_of job) f s t)

-- how often each device failed
abbrev pub failures : ℕ → ℕ → ℕ → Failures
failures source dest log = record { source = source; dest = dest; log = log }

-- over a good start, with a limit of at least the work, where no device failed: memory was wanting
unfoldable pub WantsMemory : Job → Option Forest → Option Tree → Failures → Failures → Fault → Type 0
WantsMemory job source dest old new f =
    (s : Forest) (t : Tree) → source ≡ Some s → dest ≡ Some t → IsStart (job_of job) s (root_in t)
    → IsFree t staging → work (job_of job) s (root_in t) ≤ job.limits.turns → NoneRose old new
    → f ≡ fault.Memory
