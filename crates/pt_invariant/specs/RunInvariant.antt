-- A run in progress: what its start, what it holds and what stands outside have to do with each other.
-- Each part is said where the devices tell that it speaks of, and of no others.
use Rattle.std.specs.Prelude.{◌≡◌, ℕ, suc, true, false, List, ◌++◌, count_by, Option, None, Some, slice_get, ⊤}
use Rattle.std.specs.Option.{ForSome}
use Rattle.pt_name.specs.Tuples.{IsLayout}
use Rattle.pt_tree.specs.Forest.{Forest, is_proper}
use Rattle.pt_tree.specs.Tree.{IsTree, Tree}
use Rattle.pt_invariant.specs.DestInvariant.{DestPart}
use Rattle.pt_invariant.specs.HeldInvariant.{HeldAt}
use Rattle.pt_invariant.specs.SourceInvariant.{SourcePart}
use Rattle.pt_invariant.specs.FaultState.{FaultStateAndLog}
use Rattle.pt_plan.specs.Carried.{carried_among, marked}
use Rattle.pt_plan.specs.Items.{Item}
use Rattle.pt_plan.specs.Job.{Job}
use Rattle.pt_plan.specs.Lines.{is_done, is_present, is_skipped, lines, text}
use Rattle.pt_invariant.specs.History.{History}
use Rattle.pt_plan.specs.Roots.{root_in}
use Rattle.pt_plan.specs.Run.{Counts, Run}
use Rattle.pt_plan.specs.DeviceStates.{DeviceStates, dest_tree}
use Rattle.pt_plan.specs.declared.phase.Phase.{Phase}
use Rattle.pt_plan.specs.declared.phase.Phase.TheVariants as phase
use Rattle.pt_plan.specs.declared.phase.Stage.TheVariants as stage

-- what the destination and the log held when the run began, where they told it
pub record Start : Type 0 where
  pub dest : Option Tree
  pub log : Option (List ℕ)

-- the start that these states are
abbrev pub start_of : DeviceStates → Start
start_of states = record { dest = dest_tree states.dest; log = states.log }

-- what each device tells is such as it may be: the names in a source rise, and a folder is above each entry of a destination
pub record AreStates (states : DeviceStates) : Type 0 where
  pub source : ForSome states.source (λ s. is_proper s.tree ≡ true)
  pub dest : ForSome states.dest (λ now. IsTree now.tree)

-- either both tell, and this holds of them, or neither does
abbrev pub TellsAsBefore : {A B : Type 0} → Option A → Option B → (A → B → Type 0) → Type 0
TellsAsBefore None None P = ⊤
TellsAsBefore None (Some now) P = ⊥
TellsAsBefore (Some start) None P = ⊥
TellsAsBefore (Some start) (Some now) P = P start now

-- what told at the start tells still, and this holds of both
abbrev pub TellsStill : {A B : Type 0} → Option A → Option B → (A → B → Type 0) → Type 0
TellsStill None now P = ⊤
TellsStill (Some start) None P = ⊥
TellsStill (Some start) (Some now) P = P start now

-- ---- what the items that are done came to

-- how many items are through, where so many have their line: one more where the line of an object is all that it lacks
abbrev pub items_through : Phase → ℕ → ℕ
items_through (phase.Carrying object stage.Line) count = suc count
items_through _ count = count

-- the place of the next item isn't taken
abbrev pub IsNextFree : Job → Forest → Tree → ℕ → Type 0
IsNextFree job source root count = (item : Item)
    × (slice_get (marked job source root) count ≡ Some (item, false))

-- while an object is under way, its place isn't taken
abbrev pub IsFreeAt : Phase → Job → Forest → Tree → ℕ → Type 0
IsFreeAt (phase.Carrying object _) job source root count = IsNextFree job source root count
IsFreeAt _ job source root count = ⊤

-- the objects placed so far are those that are carried of the items done, from this source over this root; of a run that has ended nothing is said
abbrev pub ArePlaced : Job → Forest → Tree → History → Phase → Type 0
ArePlaced job source root past phase.Ended = ⊤
ArePlaced job source root past here =
    past.placed ≡ carried_among job source root (items_through here past.count)

-- the objects that were placed are those that are carried of the items done, and the place of the one under way is free
pub record PlacesItems (job : Job) (source : Forest) (root : Tree) (past : History) (here : Phase) : Type 0 where
  pub placed : ArePlaced job source root past here
  pub next : IsFreeAt here job source root past.count

-- the log has got the lines of the items done
abbrev pub HasTold : Job → Forest → Tree → History → Phase → List ℕ → List ℕ → Type 0
HasTold job source root past phase.Ended old now = ⊤
HasTold job source root past here old now = now ≡ old ++ text job source root past.count

-- the lines of each kind are those of the items done
pub record CountsLines (job : Job) (source : Forest) (root : Tree) (count : ℕ)
    (counts : Counts) : Type 0 where
  pub done : counts.done ≡ count_by is_done (lines job source root count)
  pub present : counts.present ≡ count_by is_present (lines job source root count)
  pub skipped : counts.skipped ≡ count_by is_skipped (lines job source root count)

-- where source and destination tell: the objects placed and the counts are those of the items done
pub record ItemsPart (job : Job) (past : History) (here : Phase) (counts : Counts) (source : Forest)
    (root : Tree) : Type 0 where
  pub places : PlacesItems job source root past here
  pub lines_are : CountsLines job source root past.count counts

-- before the pairtree is opened nothing is told
abbrev pub IsQuiet : Phase → List ℕ → List ℕ → Type 0
IsQuiet (phase.Opening _) old now = now ≡ old
IsQuiet _ old now = ⊤

-- of a run that has ended: what is left of the destination and of the log is such as any fault may leave of this source
abbrev pub FaultStateAt : Phase → Job → Forest → Tree → Tree → List ℕ → List ℕ → Type 0
FaultStateAt phase.Ended job source start now first last = FaultStateAndLog job source start now first last
FaultStateAt _ job source start now first last = ⊤

-- ---- all of it

-- this past is that of the run: with one of the layouts that there are, of what it holds, of the source, of the destination, of both together, of the
-- log, and of what is left once it has ended
pub record IsHistory (job : Job) (start : Start) (states : DeviceStates) (run : Run) (past : History) : Type 0 where
  pub layout : IsLayout job.tuples
  pub held : HeldAt job past run.phase run.kept.held
  pub source : ForSome states.source (SourcePart job past run.phase run.kept.prefix run.kept.held)
  pub dest : TellsAsBefore start.dest states.dest (DestPart job past run.phase run.kept.held)
  pub items : ForSome states.source
      (λ s. ForSome start.dest
      (λ old. ItemsPart job past run.phase run.kept.counts s.tree (root_in old)))
  pub log : ForSome states.source
      (λ s. ForSome start.dest
      (λ old. TellsStill start.log states.log (HasTold job s.tree (root_in old) past run.phase)))
  pub quiet : TellsStill start.log states.log (IsQuiet run.phase)
  pub left : ForSome states.source
      (λ s. ForSome start.dest
      (λ old. ForSome states.dest
      (λ now. ForSome start.log
      (λ first. ForSome states.log (FaultStateAt run.phase job s.tree old now.tree first)))))

-- a run of this job that began at this start is now in progress
unfoldable pub RunInvariant : Job → Start → DeviceStates → Run → Type 0
RunInvariant job start states run = (past : History) × IsHistory job start states run past
