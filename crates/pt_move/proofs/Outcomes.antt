-- What a turn of a run leaves and says, from what it is of the definitions.
use Rattle.std.proofs.Common.{◌≡◌, ℕ, List, false, true, refl, ◌∙◌}
use Rattle.std.specs.Prelude.{Option, None, Some, Ok, Err}
use Rattle.pt_state.proofs.Words.{
  Forest,
  Reading,
  Tree,
  Answer,
  phase_after,
  Job,
  Kept,
  Run,
  turning,
  Turn,
  DeviceStates,
  tree_in,
  Fault,
  Phase,
  job_of,
  kept_of,
}
use Rattle.pt_state.proofs.Words.fault
use Rattle.pt_state.proofs.Words.phase
use Rattle.pt_state.specs.declared.state.State.{State}
use Rattle.pt_invariant.specs.RunInvariant.{RunInvariant, Start}
use Rattle.pt_invariant.specs.EndLaws.{is_ended}
use Rattle.pt_invariant.specs.RefusalLaws as law
use Rattle.pt_invariant.proofs.refusals.EarlyHalts.{early_leaves_dest, early_leaves_log}
use Rattle.pt_invariant.proofs.faults.LogHalts.{failed_log_leaves_no_staging}
use Rattle.pt_move.proofs.Answering.{leaves_behind}
use Rattle.pt_move.proofs.LateLog.{BlamesLogLate, turn_late}
use Rattle.pt_invariant.proofs.ends.Ending.{ends_well}
use Rattle.pt_invariant.proofs.ends.EndStates.{ends_with_states}
use Rattle.pt_invariant.proofs.refusals.GoodStarts.{nothing_is_refused}
use Rattle.pt_invariant.proofs.refusals.Reasons.{of_turn}
use Rattle.pt_plan.specs.RunFaults.{IsOfTurn}
use Rattle.pt_invariant.proofs.source.InPairtree.{some_same}
use Rattle.pt_invariant.proofs.refusals.Refusing.{refuses_rightly}
use Rattle.pt_invariant.proofs.refusals.StagingFound.{finds_staging}
use Rattle.pt_invariant.proofs.faults.StandingStill.{invariant_stands_still}
use Rattle.pt_invariant.proofs.refusals.TargetFound.{finds_target, finds_target_of}
use Rattle.pt_invariant.proofs.ends.TurnEnds.{stops_leave}
use Rattle.pt_invariant.proofs.bounds.TurnBound.{turn_is_within_bound}
use Rattle.pt_invariant.proofs.turns_left.EndsWithin.{turn_ends_within_work, turn_tree}
use Rattle.pt_invariant.proofs.turns_left.Within.{turn_keeps_within_work, turns_are_within_work, within_work_holds_invariant}
use Rattle.pt_invariant.specs.WorkLaws.{InvariantWithinWork}
use Rattle.pt_move.specs.Outcome.{
  EndsWhole,
  FaultStateTold,
  HoldsWithinBound,
  IfEarly,
  IfLog,
  LeavesAll,
  LeavesNoStaging,
  MadeWithinWork,
  SaysOfBoth,
  SaysOfDest,
  SaysRightly,
  StandsStillIn,
  StatesAreFiles,
  WantsMemory,
}
use Rattle.pt_move.specs.Promises.{AnswerSays, TurnKeeps}
use Rattle.pt_move.specs.Running.{IsBegun}

-- ---- what is told

pub reading_of : (r : Option Reading) {f : Forest} → tree_in r ≡ Some f → (s : Reading) × (r ≡ Some s) × (s.tree ≡ f)
reading_of None is = absurd (cc)
reading_of (Some s) {f} is = (s, refl, some_same s.tree f is)

-- ---- by the fault

of_dest : {job : Job} (why : Fault) (start : Tree) → (why ≡ fault.StagingLeft → SaysOfDest job fault.StagingLeft start)
    → (why ≡ fault.Target → SaysOfDest job fault.Target start) → SaysOfDest job why start
of_dest fault.StagingLeft start left target = left refl
of_dest fault.Target start left target = target refl
of_dest _ _ _ _ = tt

of_both : {job : Job} (why : Fault) (source : Forest) (start : Tree) → IsOfTurn why → (why ≡ fault.Target → SaysOfBoth job fault.Target source start)
    → SaysOfBoth job why source start
of_both fault.Turns _ _ own _ = absurd own
of_both fault.Target source start _ target = target refl
of_both _ _ _ _ _ = tt

if_early : (why : Fault) (P : Type 0) → (law.is_early why ≡ true → P) → IfEarly why P
if_early fault.NotPairtree P early = early refl
if_early fault.Prefix P early = early refl
if_early fault.StagingLeft P early = early refl
if_early _ _ _ = tt

-- ---- a turn

module _ (s s' : State) (here : Phase) (fed fed' : List ℕ) (old new : DeviceStates) (start : Start)
    (within : InvariantWithinWork (job_of s.job) start old (record { phase = here; kept = kept_of s fed })) (going : is_ended here ≡ false) where
  abbrev pub MadeTurn : Answer → Type 0
  MadeTurn answer = Turn (job_of s.job) here (turning (kept_of s fed)) (kept_of s' fed') old new answer

  abbrev job : Job
  job = job_of s.job

  abbrev run : Run
  run = record { phase = here; kept = kept_of s fed }

  abbrev after : Kept
  after = kept_of s' fed'

  begun : RunInvariant job start old run
  begun = within_work_holds_invariant job start old run within

  -- the run is in progress within its work, or has ended so
  pub within_after : (answer : Answer) → MadeTurn answer → InvariantWithinWork job start new (record { phase = phase_after answer; kept = after })
  within_after (Ok next) turn = turn_keeps_within_work job start old new run after next within turn
  within_after (Err why) turn = turn_ends_within_work job start old new run after why within going turn

  stands_after : {answer : Answer} → MadeTurn answer → StandsStillIn start.dest new.dest
  unfolding StandsStillIn
  stands_after {answer} turn = λ t w start_is dest_is.
      let later : Run = record { phase = phase_after answer; kept = after } in
      invariant_stands_still job start new later t w (within_work_holds_invariant job start new later (within_after answer turn)) start_is dest_is

  work_after : {answer : Answer} → MadeTurn answer → MadeWithinWork s.job (tree_in old.source) start.dest s'.counts
  unfolding MadeWithinWork
  work_after {answer} turn = λ f t source_is start_is.
      let reading = reading_of old.source source_is in
      let few = turns_are_within_work job start old new run after answer reading.0 t within going turn reading.1 start_is in
      rw reading.2 at few

  bound_after : {answer : Answer} → MadeTurn answer → HoldsWithinBound s.job (tree_in old.source) s'
  unfolding HoldsWithinBound
  bound_after {answer} turn = λ f source_is.
      let reading = reading_of old.source source_is in
      rw reading.2 at (turn_is_within_bound job start old new run after answer reading.0 begun going turn reading.1)

  left_after : {answer : Answer} → MadeTurn answer → FaultStateTold s.job (tree_in old.source) start new.dest new.log
  unfolding FaultStateTold
  left_after {answer} turn = λ f t now first last source_is start_is dest_is first_is last_is.
      let reading = reading_of new.source (turn_tree job here (turning (kept_of s fed)) after old new answer turn ∙ source_is) in
      let later : Run = record { phase = phase_after answer; kept = after } in
      rw reading.2 at
      (stops_leave job start new later reading.0 t now first last (within_work_holds_invariant job start new later (within_after answer turn)) reading.1
      start_is dest_is first_is last_is)

  -- the turn that ends the run
  end_whole : MadeTurn (Ok phase.Ended) → EndsWhole s.job (tree_in old.source) start new.dest new.log s'.counts
  unfolding EndsWhole
  end_whole turn = λ f t now first last source_is start_is dest_is first_is last_is.
      let reading = reading_of old.source source_is in
      rw reading.2 at
      (ends_well job start old new run after reading.0 t now first last begun turn reading.1 start_is dest_is first_is last_is)

  end_states : MadeTurn (Ok phase.Ended) → StatesAreFiles s.job (tree_in old.source) start new.dest new.log
  unfolding StatesAreFiles
  end_states turn = λ f t now first last source_is start_is dest_is first_is last_is.
      let reading = reading_of old.source source_is in
      rw reading.2 at
      (ends_with_states job start old new run after reading.0 t now first last begun turn reading.1 start_is dest_is first_is last_is)

  -- a turn that halts it
  leaves_all : {why : Fault} → MadeTurn (Err why) → law.is_early why ≡ true → LeavesAll start new.dest new.log
  unfolding LeavesAll
  leaves_all {why} turn early = (
    λ t now start_is dest_is. early_leaves_dest job start old new run after why t now begun turn early start_is dest_is,
    λ first last first_is last_is. early_leaves_log job start old new run after why first last begun turn early first_is last_is,
  )

  halt_says : {why : Fault} → MadeTurn (Err why) → SaysRightly s.job (tree_in old.source) start.dest why
  unfolding SaysRightly
  halt_says {why} turn = (
    λ f source_is.
        let reading = reading_of old.source source_is in
        rw reading.2 at (refuses_rightly job start old new run after why reading.0 begun turn reading.1),
    λ t start_is.
        of_dest why t
        (λ same. finds_staging job start old new run after t begun (rw same at turn) start_is)
        (λ same. finds_target job start old new run after t begun (rw same at turn) start_is),
    λ f t source_is start_is.
        let reading = reading_of old.source source_is in
        of_both why f t (of_turn turn)
        (λ same. rw reading.2 at
        (finds_target_of job start old new run after reading.0 t begun (rw same at turn) reading.1 start_is).1),
  )

  halt_good : {why : Fault} → MadeTurn (Err why) → WantsMemory s.job (tree_in old.source) start.dest old.failures new.failures why
  unfolding WantsMemory
  halt_good {why} turn = λ f t source_is start_is good free enough none.
      let reading = reading_of old.source source_is in
      nothing_is_refused job start old new run after why reading.0 t begun turn reading.1 start_is (rw reading.2 good) free none

  unstaged_after : (why : Fault) → MadeTurn (Err why) → BlamesLogLate here (Err why) → IfLog why (LeavesNoStaging new.dest)
  unfolding LeavesNoStaging
  unstaged_after fault.Log turn late = λ now dest_is. failed_log_leaves_no_staging job start old new run after now begun turn late dest_is
  unstaged_after _ _ _ = tt

  -- by the answer
  says_after : (answer : Answer) → MadeTurn answer → BlamesLogLate here answer → AnswerSays old start new s s' answer
  says_after (Ok next) turn late = λ ended.
      let last : MadeTurn (Ok phase.Ended) = rw ended at turn in
      record { ends = end_whole last; states = end_states last }
  says_after (Err why) turn late = record {
    early = if_early why (LeavesAll start new.dest new.log) (leaves_all turn);
    unstaged = unstaged_after why turn late;
    says = halt_says turn;
    good = halt_good turn;
  }

  -- so the run keeps its promises in it
  pub turn_keeps : (answer : Answer) → MadeTurn answer → s'.job ≡ s.job → IsBegun start new (record { phase = phase_after answer; state = s' })
      → TurnKeeps start old new s s' answer
  unfolding TurnKeeps
  turn_keeps answer turn same is = record {
    begun = is;
    leaves = rw same at (leaves_behind start new (record { phase = phase_after answer; state = s' }) is);
    stands = stands_after turn;
    work = work_after turn;
    bound = bound_after turn;
    left = left_after turn;
    says = says_after answer turn (turn_late turn);
  }
