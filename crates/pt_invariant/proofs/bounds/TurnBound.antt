-- After any turn no more is held than the source's bound.
use Rattle.std.proofs.Common.{◌≡◌, Bool, true, false, refl}
use Rattle.std.specs.Prelude.{Option, Some, Ok, Err}
use Rattle.pt_tree.specs.Source.{Reading, after_next, after_open}
use Rattle.pt_plan.specs.Job.{Job}
use Rattle.pt_plan.specs.Run.{Kept, Run, turning}
use Rattle.pt_plan.specs.Turn.{Did, GoesOn, Turn}
use Rattle.pt_plan.specs.DeviceStates.{Answers, Asked, AsksNothing, Lists, Looks, LooksAndLists, Opens, OpensAndReads, Reads, DeviceStates}
use Rattle.pt_plan.specs.declared.phase.Phase.{Phase}
use Rattle.pt_invariant.specs.RunInvariant.{RunInvariant, Start}
use Rattle.pt_invariant.specs.SourceInvariant.{IsWithinBound}
use Rattle.pt_invariant.specs.BoundLaws.{TurnIsWithinBound}
use Rattle.pt_invariant.specs.EndLaws.{is_ended}
use Rattle.pt_invariant.proofs.ends.Ending.{last_turn}
use Rattle.pt_invariant.proofs.bounds.HaltedBound.{halted_is_within_bound}
use Rattle.pt_invariant.proofs.ends.TurnKeeps.{turn_keeps_invariant}
use Rattle.pt_invariant.proofs.bounds.WithinBound.{invariant_is_within_bound}

-- a source that told tells after it answered, and the same tree
answered : (asked : Asked) (s : Reading) {new : Option Reading} → Answers asked (Some s) new → (v : Reading) × (new ≡ Some v) × (v.tree ≡ s.tree)
unfolding Answers
answered AsksNothing s answers = (s, answers, refl)
answered (Looks _) s answers = (s, answers.1, refl)
answered (Lists _ _) s answers = (s, answers.2, refl)
answered (LooksAndLists _ _ _) s answers = (s, answers.3, refl)
answered (Opens path) s answers = (after_open path s, answers, refl)
answered (Reads _) s answers = (after_next s, answers.1, refl)
answered (OpensAndReads path _) s answers = (after_next (after_open path s), answers.1, refl)

-- a source that told tells after a turn that goes on, and the same tree
tells_on : {old new : DeviceStates} (run : Run) {after : Kept} {job : Job} {next : Phase} {s : Reading}
    → Turn job run.phase (turning run.kept) after old new (Ok next) → old.source ≡ Some s → (v : Reading) × (new.source ≡ Some v) × (v.tree ≡ s.tree)
unfolding Did
tells_on {new} _ {s} (GoesOn calls _ _ did _) told = answered calls.asked s (rw told at did.0.source)

goes_within : {job : Job} (start : Start) {old new : DeviceStates} (run : Run) {after : Kept} {next : Phase} {s : Reading} → RunInvariant job start old run
    → is_ended run.phase ≡ false → Turn job run.phase (turning run.kept) after old new (Ok next) → old.source ≡ Some s
    → (last : Bool) → is_ended next ≡ last → IsWithinBound job s.tree after.held
goes_within {job} start {old} {new} run {after} {next} begun _ turn told false more =
    let v = tells_on run turn told in
    rw v.2 at
    (invariant_is_within_bound job start new (record { phase = next; kept = after }) v.0 (turn_keeps_invariant job start old new run after next begun turn) more
    v.1)
goes_within {job} start {old} run {s} begun going (GoesOn _ _ turn _ _) told true ended =
    rw (last_turn turn ended).held_is
    (invariant_is_within_bound job start old run s begun going told)

pub turn_is_within_bound : TurnIsWithinBound
turn_is_within_bound _ start _ _ run _ (Ok _) _ begun going turn told = goes_within start run begun going turn told _ refl
turn_is_within_bound job start old new run after (Err why) s begun going turn told = halted_is_within_bound job start old new run after why s begun going turn
    told
