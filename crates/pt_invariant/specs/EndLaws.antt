-- What a run in progress holds, and what it leaves that ends well.
use Rattle.std.specs.Prelude.{◌≡◌, ℕ, All, Bool, true, false, List, ◌++◌, Some, Ok}
use Rattle.pt_object.specs.Holding.{IsFree}
use Rattle.pt_object.specs.Scripts.{staging}
use Rattle.pt_tree.specs.Dest.{Writing}
use Rattle.pt_tree.specs.Forest.{Forest}
use Rattle.pt_tree.specs.Source.{Reading}
use Rattle.pt_tree.specs.Tree.{Tree}
use Rattle.pt_plan.specs.Carried.{IsStart, after_all, all_carried}
use Rattle.pt_plan.specs.Job.{Job}
use Rattle.pt_plan.specs.Lines.{all_lines, end_line, log_of}
use Rattle.pt_plan.specs.Roots.{root_in, with_root}
use Rattle.pt_plan.specs.Run.{Kept, Run, turning}
use Rattle.pt_plan.specs.Turn.{Turn}
use Rattle.pt_plan.specs.TurnPlace.{last_line}
use Rattle.pt_plan.specs.WholeLaws.{HasItsFiles}
use Rattle.pt_plan.specs.DeviceStates.{DeviceStates}
use Rattle.pt_plan.specs.declared.phase.Phase.{Phase}
use Rattle.pt_plan.specs.declared.phase.Phase.TheVariants as phase
use Rattle.pt_invariant.specs.RunInvariant.{RunInvariant, Start}
use Rattle.pt_invariant.specs.SourceInvariant.{IsWithinBound}

-- the start was a good one, nothing stood at `staging`, the destination holds the root with all objects that are carried and is as it was elsewhere,
-- and this was told
pub record IsEnd (job : Job) (source : Forest) (start now : Tree) (told : List ℕ) : Type 0 where
  pub begins : IsStart job source (root_in start)
  pub free : IsFree start staging
  pub tree : now ≡ with_root start (after_all job source (root_in start))
  pub log : told ≡ log_of job source (root_in start)

-- so it is after the turn that ends the run, where all three tell; and the counts are the numbers of the end line
abbrev pub EndsWell : Type 0
EndsWell =
    (job : Job) (start : Start) (old new : DeviceStates) (run : Run) (after : Kept) (s : Reading)
    (t : Tree) (now : Writing) (first last : List ℕ) → RunInvariant job start old run
    → Turn job run.phase (turning run.kept) after old new (Ok phase.Ended)
    → old.source ≡ Some s → start.dest ≡ Some t → new.dest ≡ Some now → start.log ≡ Some first
    → new.log ≡ Some last
    → ((told : List ℕ) × (last ≡ first ++ told) × IsEnd job s.tree t now.tree told)
    × (last_line after.counts ≡ end_line (all_lines job s.tree (root_in t)))

-- and the state of the version of each object that is carried is its files, where no two of them whose bytes differ have one digest
abbrev pub EndsWithStates : Type 0
EndsWithStates =
    (job : Job) (start : Start) (old new : DeviceStates) (run : Run) (after : Kept) (s : Reading)
    (t : Tree) (now : Writing) (first last : List ℕ) → RunInvariant job start old run
    → Turn job run.phase (turning run.kept) after old new (Ok phase.Ended)
    → old.source ≡ Some s → start.dest ≡ Some t → new.dest ≡ Some now → start.log ≡ Some first
    → new.log ≡ Some last
    → All (HasItsFiles job now.tree) (all_carried job s.tree (root_in t))

-- the run has ended
abbrev pub is_ended : Phase → Bool
is_ended phase.Ended = true
is_ended _ = false

-- no more is held between two turns than the source's bound, where the source tells
abbrev pub InvariantIsWithinBound : Type 0
InvariantIsWithinBound = (job : Job) (start : Start) (states : DeviceStates) (run : Run) (s : Reading)
    → RunInvariant job start states run → is_ended run.phase ≡ false → states.source ≡ Some s
    → IsWithinBound job s.tree run.kept.held
