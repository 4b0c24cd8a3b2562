-- A run that has ended made no more turns than its work.
use Rattle.std.proofs.Common.{◌≡◌, ◌≤◌, ℕ, refl, arith}
use Rattle.std.specs.Prelude.{Err}
use Rattle.pt_tree.specs.Forest.{Forest}
use Rattle.pt_tree.specs.Tree.{Tree}
use Rattle.pt_plan.specs.Answer.{Answer}
use Rattle.pt_plan.specs.Job.{Job}
use Rattle.pt_plan.specs.Run.{Kept, Run, turning}
use Rattle.pt_plan.specs.Turn.{Did, FailsAtFirst, FailsLater, GoesOn, IsRefused, FailsPartway, FailsUnchanged, Turn}
use Rattle.pt_plan.specs.Work.{work}
use Rattle.pt_plan.specs.DeviceStates.{DeviceStates}
use Rattle.pt_tree.specs.Source.{tree_in}
use Rattle.pt_plan.specs.declared.fault.Fault.TheVariants as fault
use Rattle.pt_plan.specs.declared.phase.Phase.{Phase}
use Rattle.pt_plan.specs.declared.phase.Phase.TheVariants as phase
use Rattle.pt_invariant.specs.RunInvariant.{RunInvariant, Start}
use Rattle.pt_invariant.proofs.ends.TurnEnds.{answers_tree, same_tree, turn_ends_invariant}
use Rattle.pt_invariant.specs.WorkLaws.{InvariantWithinWork, IsWithinWork, StopsWithinWork, TurnEndsWithinWork}
use Rattle.pt_invariant.proofs.turns_left.Within.{turns_are_within_work}

-- a turn leaves the source's tree
pub turn_tree : (job : Job) (here : Phase) (before after : Kept) (old new : DeviceStates) (answer : Answer) → Turn job here before after old new answer
    → tree_in new.source ≡ tree_in old.source
unfolding Did FailsPartway FailsUnchanged
turn_tree _ _ _ _ old new _ (GoesOn calls _ _ did _) = answers_tree calls.asked old.source new.source did.0.source
turn_tree _ _ _ _ old new _ (IsRefused _ _ calls _ _ did _) = answers_tree calls.asked old.source new.source did.0.source
turn_tree _ _ _ _ _ _ _ (FailsAtFirst _ stays _) = stays.0
turn_tree _ _ _ _ _ _ _ (FailsLater _ _ _ _ _ _ _ leaves _ _) = leaves.0.source

-- of a run that has ended no turn is left
no_more : {job : Job} {source : Forest} {root : Tree} (count : ℕ) {kept : Kept} → kept.counts.turns ≤ work job source root
    → IsWithinWork job source root count (record { phase = phase.Ended; kept = kept })
no_more count few = record { within = omega (arith, few) }

pub turn_ends_within_work : TurnEndsWithinWork
unfolding InvariantWithinWork RunInvariant
turn_ends_within_work job start old new run after why (past, is, within) going turn =
    let ends = turn_ends_invariant job start old new run after why (past, is) turn in (
      ends.0,
      ends.1,
      λ v same t some.
          let s = same_tree old.source (turn_tree job run.phase _ after old new (Err why) turn) same in
          rw s.2
          (no_more ends.0.count (turns_are_within_work job start old new run after (Err why) s.0 t (past, is, within) going turn s.1 some)),
    )

-- its own count has no part in what a run that ended is
without_turn : (job : Job) (start : Start) (states : DeviceStates) (kept : Kept)
    → RunInvariant job start states (record { phase = phase.Ended; kept = turning kept })
    → RunInvariant job start states (record { phase = phase.Ended; kept = kept })
unfolding RunInvariant
without_turn _ _ _ _ (past, is) = (
  past,
  record {
    layout = is.layout;
    held = is.held;
    source = is.source;
    dest = is.dest;
    items = λ s e old f. record {
      places = (is.items s e old f).places;
      lines_are = record {
        done = (is.items s e old f).lines_are.done;
        present = (is.items s e old f).lines_are.present;
        skipped = (is.items s e old f).lines_are.skipped;
      };
    };
    log = is.log;
    quiet = is.quiet;
    left = is.left;
  },
)

no_turn : (job : Job) (here : Phase) (kept : Kept) (states : DeviceStates) → Turn job here (turning kept) (turning kept) states states (Err fault.Memory)
unfolding FailsUnchanged
no_turn _ _ _ _ = FailsAtFirst fault.Memory (refl, refl, refl, refl, tt)
    (record { prefix = refl; trail = refl; rows_are = refl; contents = refl; counts = refl })

stops_begun : (job : Job) (start : Start) (states : DeviceStates) (run : Run) → RunInvariant job start states run
    → RunInvariant job start states (record { phase = phase.Ended; kept = run.kept })
stops_begun job start states run begun = without_turn job start states run.kept
    (turn_ends_invariant job start states states run (turning run.kept) fault.Memory begun (no_turn job run.phase run.kept states))

pub stops_within_work : StopsWithinWork
unfolding InvariantWithinWork RunInvariant
stops_within_work job start states run (past, is, within) =
    let ends = stops_begun job start states run (past, is) in
    (ends.0, ends.1, λ v same t some. no_more ends.0.count (let was = (within v same t some).within in omega (arith, was)))
