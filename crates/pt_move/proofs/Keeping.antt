-- That a run keeps its promises in a step, by what the step answers.
use Rattle.std.proofs.Common.{◌≡◌, ◌≢◌, ◌<◌, ◌≤◌, ℕ, List, arith}
use Rattle.std.specs.Prelude.{Option, Some, Ok, Err}
use Rattle.pt_state.proofs.Words.{Forest, Reading, Tree, Answer, phase_after, Job, Run, turning, DeviceStates, tree_in, Fault, Phase, job_of, kept_of}
use Rattle.pt_state.proofs.Words.fault
use Rattle.pt_state.proofs.Words.phase
use Rattle.pt_state.specs.declared.state.State.{State}
use Rattle.pt_plan.specs.Roots.{root_in}
use Rattle.pt_plan.specs.Work.{work}
use Rattle.pt_invariant.specs.RunInvariant.{RunInvariant, Start}
use Rattle.pt_invariant.proofs.ends.TurnEnds.{stops_leave}
use Rattle.pt_invariant.proofs.faults.StandingStill.{invariant_stands_still}
use Rattle.pt_invariant.proofs.bounds.WithinBound.{invariant_is_within_bound}
use Rattle.pt_invariant.proofs.turns_left.EndsWithin.{turn_tree}
use Rattle.pt_invariant.proofs.turns_left.Within.{turn_is_left, within_work_holds_invariant}
use Rattle.pt_invariant.specs.WorkLaws.{InvariantWithinWork}
use Rattle.pt_state.proofs.Whole.{holds_nothing_else}
use Rattle.pt_state.specs.Outside.{FedAfter}
use Rattle.pt_state.specs.declared.job.Job as own
use Rattle.pt_move.specs.Turning.{CountedTurn}
use Rattle.pt_move.specs.Outcome.{
  FaultStateTold,
  HoldsWithinBound,
  IfEarly,
  IfLog,
  LeavesAll,
  LeavesNoStaging,
  MadeWithinWork,
  SaysRightly,
  StandsStillIn,
  WantsMemory,
}
use Rattle.pt_move.specs.Promises.{IfHalted, Keeps, TurnKeeps, UnlessEnded}
use Rattle.pt_move.specs.Running.{BeganSomewhere, FedUntilEnd, InProgress, IsBegun, Running, as_told, run_of}
use Rattle.pt_move.specs.declared.mover.Turn.TheVariants as turn
use Rattle.pt_move.proofs.Answering.{begun_ends, fed_going, fed_to_end, leaves_behind, same_begun, was_fed}
use Rattle.pt_move.proofs.Going.{is_going}
use Rattle.pt_move.proofs.Told.{of_told, to_told}
use Rattle.pt_move.proofs.Outcomes.{reading_of, turn_keeps, within_after}

-- ---- the source's tree stays

pub tree_stays : (here : Phase) (s s' : State) (old new : DeviceStates) (answer : Answer) → here ≢ phase.Ended
    → BeganSomewhere old (record { phase = here; state = s })
    → CountedTurn here s s' old new answer → tree_in new.source ≡ tree_in old.source
unfolding CountedTurn
tree_stays here s s' old new answer going begun turned =
    let made = turned.1 _ (was_fed here s old going begun) in
    turn_tree (job_of s.job) here (turning (kept_of s _)) (kept_of s' made.0) old new answer made.1.1

-- ---- the turn in a step

fed_after : (answer : Answer) (s s' : State) (fed : List ℕ) → s'.job ≡ s.job → FedAfter answer s.job.algorithm s'.hasher fed
    → FedUntilEnd (phase_after answer) s'.job.algorithm s'.hasher fed
fed_after (Ok next) s s' fed job was = fed_to_end next s'.job.algorithm s'.hasher fed (rw job was)
fed_after (Err why) s s' fed job was = tt

pub keeps_after : (here : Phase) (s s' : State) (old new : DeviceStates) (answer : Answer) → here ≢ phase.Ended → CountedTurn here s s' old new answer
    → (start : Start) → IsBegun start old (record { phase = here; state = s }) → TurnKeeps start old new s s' answer
unfolding IsBegun CountedTurn
keeps_after here s s' old new answer going turned start is =
    let made = turned.1 is.fed (fed_going s.job.algorithm s.hasher is.fed going is.was) in
    let going_on = is_going here going in
    let within = of_told (job_of s.job) start old (record { phase = here; kept = kept_of s is.fed }) is.begun in
    let begun : IsBegun start new (record { phase = phase_after answer; state = s' }) = record {
      fed = made.0;
      was = fed_after answer s s' made.0 turned.0 made.1.0;
      begun = rw turned.0
          (to_told (job_of s.job) start new (record { phase = phase_after answer; kept = kept_of s' made.0 })
          (within_after s s' here is.fed made.0 old new start within going_on answer made.1.1));
    } in
    turn_keeps s s' here is.fed made.0 old new start within going_on answer made.1.1 turned.0 begun

-- ---- by the answer

-- it holds of a fault of a turn as it does of any but that of an ended run
halted : (P : Fault → Type 0) (why : Fault) → P why → IfHalted (Err why) P
halted _ fault.Ended _ = tt
halted _ _ p = p

unless_ended : (P : Type 0) (why : Fault) → P → UnlessEnded (Err why) P
unless_ended _ fault.Ended _ = tt
unless_ended _ _ p = p

module _ (start : Start) (old new : DeviceStates) (before : Running) (s' : State) where
  -- there is more to do
  pub keeps_more : (next : Phase) → TurnKeeps start old new before.state s' (Ok next)
      → Keeps start old new before (record { phase = next; state = s' }) (Ok turn.More)
  unfolding Keeps TurnKeeps
  keeps_more next kept = record {
    begun = kept.begun;
    leaves = kept.leaves;
    stands = kept.stands;
    work = kept.work;
    bound = kept.bound;
    holds = holds_nothing_else s';
    left = kept.left;
    ends = tt;
    states = tt;
    early = tt;
    unstaged = tt;
    says = tt;
    good = tt;
  }

  -- it was the last turn
  pub keeps_finished : (next : Phase) → next ≡ phase.Ended → TurnKeeps start old new before.state s' (Ok next)
      → Keeps start old new before (record { phase = phase.Ended; state = s' }) (Ok turn.Finished)
  unfolding Keeps TurnKeeps
  keeps_finished next ended kept = record {
    begun = rw ended at kept.begun;
    leaves = kept.leaves;
    stands = kept.stands;
    work = kept.work;
    bound = kept.bound;
    holds = holds_nothing_else s';
    left = kept.left;
    ends = (kept.says ended).ends;
    states = (kept.says ended).states;
    early = tt;
    unstaged = tt;
    says = tt;
    good = tt;
  }

  -- it halted the run
  pub keeps_halted : (why : Fault) → TurnKeeps start old new before.state s' (Err why)
      → Keeps start old new before (record { phase = phase.Ended; state = s' }) (Err why)
  unfolding Keeps TurnKeeps
  keeps_halted why kept = record {
    begun = kept.begun;
    leaves = kept.leaves;
    stands = kept.stands;
    work = kept.work;
    bound = unless_ended (HoldsWithinBound before.state.job (tree_in old.source) s') why kept.bound;
    holds = holds_nothing_else s';
    left = kept.left;
    ends = tt;
    states = tt;
    early = halted (λ f. IfEarly f (LeavesAll start new.dest new.log)) why kept.says.early;
    unstaged = halted (λ f. IfLog f (LeavesNoStaging new.dest)) why kept.says.unstaged;
    says = halted (SaysRightly before.state.job (tree_in old.source) start.dest) why kept.says.says;
    good = halted (WantsMemory before.state.job (tree_in old.source) start.dest old.failures new.failures) why kept.says.good;
  }

-- ---- no turn was made

so_far : (job : Job) (start : Start) (now : DeviceStates) (run : Run) {s : Reading} {t : Tree} → InvariantWithinWork job start now run → now.source ≡ Some s
    → start.dest ≡ Some t → run.kept.counts.turns ≤ work job s.tree (root_in t)
unfolding InvariantWithinWork
so_far job start now run {s} {t} (past, is, within) source_is start_is = let few = (within s source_is t start_is).within in omega (arith, few)

-- of a run in progress
module _ (start : Start) (now : DeviceStates) (r : Running) (is : IsBegun start now r) where
  there : InProgress start (as_told now) r
  unfolding IsBegun
  there = is

  abbrev job : Job
  job = job_of r.state.job

  abbrev run : Run
  run = run_of r there.fed

  begun : RunInvariant job start (as_told now) run
  begun = within_work_holds_invariant job start (as_told now) run there.begun

  pub stands_there : StandsStillIn start.dest now.dest
  unfolding StandsStillIn
  stands_there = λ t w start_is dest_is. invariant_stands_still job start (as_told now) run t w begun start_is dest_is

  made_there : MadeWithinWork r.state.job (tree_in now.source) start.dest r.state.counts
  unfolding MadeWithinWork
  made_there = λ f t source_is start_is.
      let reading = reading_of now.source source_is in
      rw reading.2 at (so_far job start (as_told now) run {s = reading.0} {t = t} there.begun reading.1 start_is)

  bound_there : r.phase ≢ phase.Ended → HoldsWithinBound r.state.job (tree_in now.source) r.state
  unfolding HoldsWithinBound
  bound_there going = λ f source_is.
      let reading = reading_of now.source source_is in
      rw reading.2 at (invariant_is_within_bound job start (as_told now) run reading.0 begun (is_going r.phase going) reading.1)

  left_there : FaultStateTold r.state.job (tree_in now.source) start now.dest now.log
  unfolding FaultStateTold
  left_there = λ f t w first last source_is start_is dest_is first_is last_is.
      let reading = reading_of now.source source_is in
      rw reading.2 at
      (stops_leave job start (as_told now) run reading.0 t w first last begun reading.1 start_is dest_is first_is last_is)

  -- a limit that was made is less than the work
  limit_there : r.phase ≢ phase.Ended → r.state.job.limits.turns ≤ r.state.counts.turns → (s : Forest) (t : Tree) → tree_in now.source ≡ Some s
      → start.dest ≡ Some t → r.state.job.limits.turns < work job s (root_in t)
  limit_there going made = λ f t source_is start_is.
      let reading = reading_of now.source source_is in
      let less : r.state.counts.turns < work job f (root_in t) =
      rw reading.2 at (turn_is_left job start (as_told now) run reading.0 t there.begun (is_going r.phase going) reading.1 start_is) in
      omega (arith, less, made)

  -- so one of at least the work isn't made
  good_there : r.phase ≢ phase.Ended → r.state.job.limits.turns ≤ r.state.counts.turns
      → WantsMemory r.state.job (tree_in now.source) start.dest now.failures now.failures fault.Turns
  unfolding WantsMemory
  good_there going made = λ f t source_is start_is good free enough none.
      let less = limit_there going made f t source_is start_is in
      absurd (omega (arith, less, enough))

same_counts : (job : own.Job) (source : Option Forest) (start : Option Tree) {s : State} (s' : State) → s' ≡ s → MadeWithinWork job source start s.counts
    → MadeWithinWork job source start s'.counts
same_counts job source start s' same made = rw same made

-- the limit of turns was made
pub keeps_at_limit : (start : Start) (now : DeviceStates) (before after : Running) → before.phase ≢ phase.Ended
    → before.state.job.limits.turns ≤ before.state.counts.turns → after.phase ≡ phase.Ended → after.state ≡ before.state → IsBegun start now before
    → Keeps start now now before after (Err fault.Turns)
unfolding Keeps SaysRightly
keeps_at_limit start now before after going made ended same is = record {
  begun = begun_ends start now before ended same is;
  leaves = leaves_behind start now before is;
  stands = stands_there start now before is;
  work = same_counts before.state.job (tree_in now.source) start.dest after.state same (made_there start now before is);
  bound = rw same (bound_there start now before is going);
  holds = holds_nothing_else after.state;
  left = left_there start now before is;
  ends = tt;
  states = tt;
  early = tt;
  unstaged = tt;
  says = (λ s told. tt, λ t told. tt, limit_there start now before is going made);
  good = good_there start now before is going made;
}

-- it had ended
pub keeps_ended : (start : Start) (now : DeviceStates) (before after : Running) → after ≡ before → IsBegun start now before
    → Keeps start now now before after (Err fault.Ended)
unfolding Keeps
keeps_ended start now before after same is = record {
  begun = same_begun start now same is;
  leaves = leaves_behind start now before is;
  stands = stands_there start now before is;
  work = rw same (made_there start now before is);
  bound = tt;
  holds = holds_nothing_else after.state;
  left = left_there start now before is;
  ends = tt;
  states = tt;
  early = tt;
  unstaged = tt;
  says = tt;
  good = tt;
}

pub ruleset outcomes = (tree_stays, keeps_after)

pub ruleset answered = (keeps_more, keeps_finished, keeps_halted, keeps_at_limit, keeps_ended)
