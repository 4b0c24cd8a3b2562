-- A run makes no more turns than its work, where its source and its destination tell.
use Rattle.std.specs.Prelude.{◌≡◌, ◌<◌, ◌≤◌, ℕ, ◌+◌, Bool, false, List, map, Some, Ok, Err, slice_get, ⊤}
use Rattle.std.specs.Option.{ForSome}
use Rattle.pt_name.specs.Tuples.{IsLayout}
use Rattle.pt_tree.specs.Forest.{Forest}
use Rattle.pt_tree.specs.Source.{Reading}
use Rattle.pt_tree.specs.Tree.{Tree}
use Rattle.pt_plan.specs.Answer.{Answer}
use Rattle.pt_plan.specs.Carried.{Marked, marked}
use Rattle.pt_plan.specs.Items.{Item, items}
use Rattle.pt_plan.specs.Job.{Job}
use Rattle.pt_plan.specs.Roots.{root_in}
use Rattle.pt_plan.specs.Run.{Counts, Held, Kept, Run, new_run, turning}
use Rattle.pt_plan.specs.Turn.{Turn}
use Rattle.pt_plan.specs.TurnMake.{MakeStep}
use Rattle.pt_plan.specs.TurnPlace.{PlaceStep}
use Rattle.pt_plan.specs.TurnScan.{ScanStep}
use Rattle.pt_plan.specs.TurnStart.{StartStep}
use Rattle.pt_plan.specs.TurnWalk.{WalkStep}
use Rattle.pt_plan.specs.Work.{work}
use Rattle.pt_plan.specs.DeviceStates.{Answers, Calls, DeviceStates}
use Rattle.pt_plan.specs.declared.fault.Fault.{Fault}
use Rattle.pt_plan.specs.declared.phase.Phase.{Phase}
use Rattle.pt_plan.specs.declared.phase.Phase.TheVariants as phase
use Rattle.pt_plan.specs.declared.phase.Stage.TheVariants as stage
use Rattle.pt_invariant.specs.RunInvariant.{RunInvariant, IsHistory, AreStates, Start, start_of}
use Rattle.pt_invariant.specs.HeldInvariant.{HeldAt}
use Rattle.pt_invariant.specs.SourceInvariant.{SourcePart}
use Rattle.pt_invariant.specs.EndLaws.{is_ended}
use Rattle.pt_invariant.specs.History.{History, done_after}
use Rattle.pt_invariant.specs.Rank.{rank}

-- ---- a run within its work

-- the turns made and the most that are left are together no more than the work
pub record IsWithinWork (job : Job) (source : Forest) (root : Tree) (count : ℕ) (run : Run) : Type 0 where
  pub within : run.kept.counts.turns + rank job source (marked job source root) count run.phase run.kept.held
      ≤ work job source root

-- a run of this job that began at this start is in progress, and, where source and destination tell, within its work
unfoldable pub InvariantWithinWork : Job → Start → DeviceStates → Run → Type 0
InvariantWithinWork job start states run =
    (past : History) × IsHistory job start states run past
    × ForSome states.source
    (λ s. ForSome start.dest (λ old. IsWithinWork job s.tree (root_in old) past.count run))

-- a new run is
abbrev pub NewRunIsWithinWork : Type 0
NewRunIsWithinWork = (job : Job) (states : DeviceStates) → IsLayout job.tuples → AreStates states
    → InvariantWithinWork job (start_of states) states new_run

-- it is in progress
abbrev pub WithinWorkHoldsInvariant : Type 0
WithinWorkHoldsInvariant = (job : Job) (start : Start) (states : DeviceStates) (run : Run)
    → InvariantWithinWork job start states run → RunInvariant job start states run

-- a turn that goes on leaves it so, at its next phase
abbrev pub TurnKeepsWithinWork : Type 0
TurnKeepsWithinWork =
    (job : Job) (start : Start) (old new : DeviceStates) (run : Run) (after : Kept) (next : Phase)
    → InvariantWithinWork job start old run
    → Turn job run.phase (turning run.kept) after old new (Ok next)
    → InvariantWithinWork job start new (record { phase = next; kept = after })

-- before its end a turn is left of the work, so that a limit of at least the work isn't reached
abbrev pub TurnIsLeft : Type 0
TurnIsLeft =
    (job : Job) (start : Start) (states : DeviceStates) (run : Run) (s : Reading) (t : Tree)
    → InvariantWithinWork job start states run → is_ended run.phase ≡ false → states.source ≡ Some s
    → start.dest ≡ Some t → run.kept.counts.turns < work job s.tree (root_in t)

-- after any turn, whatever it answers, no more turns were made than the work
abbrev pub TurnsAreWithinWork : Type 0
TurnsAreWithinWork =
    (job : Job) (start : Start) (old new : DeviceStates) (run : Run) (after : Kept) (answer : Answer)
    (s : Reading) (t : Tree) → InvariantWithinWork job start old run → is_ended run.phase ≡ false
    → Turn job run.phase (turning run.kept) after old new answer
    → old.source ≡ Some s → start.dest ≡ Some t → after.counts.turns ≤ work job s.tree (root_in t)

-- a turn that halts the run leaves it so, ended
abbrev pub TurnEndsWithinWork : Type 0
TurnEndsWithinWork =
    (job : Job) (start : Start) (old new : DeviceStates) (run : Run) (after : Kept) (why : Fault)
    → InvariantWithinWork job start old run → is_ended run.phase ≡ false
    → Turn job run.phase (turning run.kept) after old new (Err why)
    → InvariantWithinWork job start new (record { phase = phase.Ended; kept = after })

-- and so is a run that is ended without a turn
abbrev pub StopsWithinWork : Type 0
StopsWithinWork = (job : Job) (start : Start) (states : DeviceStates) (run : Run)
    → InvariantWithinWork job start states run
    → InvariantWithinWork job start states (record { phase = phase.Ended; kept = run.kept })

-- ---- the turns of each group

-- a turn from this phase to that one lowers what is left
abbrev pub DecreasesRank : Job → Forest → List Marked → ℕ → Phase → Held → Phase → Held → Type 0
DecreasesRank job source marks count here held next after =
    rank job source marks (done_after here held.trail next count) next after + 1
    ≤ rank job source marks count here held

-- the turns of the start
abbrev pub StartingDecreasesRank : Type 0
StartingDecreasesRank =
    (job : Job) (past : History) (source : Forest) (marks : List Marked) (prefix read : List ℕ)
    (here next : Phase) (held : Held) (calls : Calls) → StartStep job here prefix read calls (Ok next)
    → HeldAt job past here held
    → DecreasesRank job source marks past.count here held next held

-- each item has its mark
abbrev pub AreMarked : List Item → List Marked → Type 0
AreMarked items marks = map (λ m. m.0) marks ≡ items

-- the place of an object that is entered next isn't marked as taken
abbrev pub EntersFree : Phase → List Marked → ℕ → Type 0
EntersFree (phase.Carrying object stage.Open) marks count =
    (item : Item) (taken : Bool) → slice_get marks count ≡ Some (item, taken) → taken ≡ false
EntersFree _ marks count = ⊤

-- the turns of the walk
abbrev pub WalkingDecreasesRank : Type 0
WalkingDecreasesRank =
    (job : Job) (past : History) (s new : Reading) (marks : List Marked) (prefix : List ℕ) (here next : Phase)
    (held after : Held) (calls : Calls) → WalkStep job prefix here held after calls (Ok next)
    → Answers calls.asked (Some s) (Some new)
    → HeldAt job past here held → SourcePart job past here prefix held s
    → AreMarked (items job s.tree) marks
    → EntersFree next marks (done_after here held.trail next past.count)
    → DecreasesRank job s.tree marks past.count here held next after

-- the turns of the scan of an object
abbrev pub ScanningDecreasesRank : Type 0
ScanningDecreasesRank =
    (job : Job) (past : History) (s new : Reading) (marks : List Marked) (prefix : List ℕ) (here next : Phase)
    (held after : Held) (calls : Calls) → ScanStep job here held after calls (Ok next)
    → Answers calls.asked (Some s) (Some new)
    → HeldAt job past here held → SourcePart job past here prefix held s
    → DecreasesRank job s.tree marks past.count here held next after

-- the turns that make an object
abbrev pub MakingDecreasesRank : Type 0
MakingDecreasesRank =
    (job : Job) (past : History) (s new : Reading) (marks : List Marked) (prefix : List ℕ) (here : Phase)
    (held after : Held) (calls : Calls) (next : Phase) → MakeStep job here held after calls (Ok next)
    → Answers calls.asked (Some s) (Some new)
    → HeldAt job past here held → SourcePart job past here prefix held s
    → DecreasesRank job s.tree marks past.count here held next after

-- the turns that bring an object to its place, and that tell of it and of the end
abbrev pub PlacingDecreasesRank : Type 0
PlacingDecreasesRank =
    (job : Job) (counts : Counts) (past : History) (source : Forest) (marks : List Marked) (here next : Phase)
    (held after : Held) (calls : Calls) → PlaceStep job counts here held after calls (Ok next)
    → HeldAt job past here held
    → DecreasesRank job source marks past.count here held next after
