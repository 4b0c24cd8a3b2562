-- What a step answers, and what it leaves, from the turn that it made.
use Rattle.std.proofs.Common.{◌≡◌, ◌≢◌, ◌<◌, ◌≤◌, ◌+◌, ◌==◌, Bool, cond, false, true, ℕ, List, [], refl, sym, ap, ◌∙◌, arith, inl, inr}
use Rattle.std.proofs.lemmas.Bool.{OnFalse_at, OnFalse_from}
use Rattle.std.specs.Prelude.{Option, None, Some, Ok, Err}
use Rattle.pt_state.proofs.Words.{
  HasBeenFed,
  Algorithm,
  Hasher,
  Writing,
  Reading,
  Answer,
  phase_after,
  Job,
  Held,
  Run,
  new_run,
  Failures,
  DeviceStates,
  tree_in,
  Fault,
  Phase,
  held_of,
  job_of,
  kept_of,
  IsLayout,
  Tree,
}
use Rattle.pt_state.proofs.Words.fault
use Rattle.pt_state.proofs.Words.part
use Rattle.pt_state.proofs.Words.opening
use Rattle.pt_state.proofs.Words.phase
use Rattle.pt_state.proofs.Words.stage
use Rattle.pt_state.specs.declared.state.State.{State}
use Rattle.pt_state.specs.declared.job.Report.{Report}
use Rattle.pt_plan.specs.Enabled.{Enabled}
use Rattle.pt_move.specs.Bounds.{IsBounded, IsWithin, most_calls}
use Rattle.pt_move.specs.Stands.{Stands}
use Rattle.pt_move.specs.Turning.{HasFed, CountedTurn}
use Rattle.pt_move.proofs.Bounding.{turn_keeps_bounds}
use Rattle.pt_move.specs.Counting.{Rose}
use Rattle.pt_plan.specs.RunFaults.{IsOfTurn, fault_number}
use Rattle.pt_move.specs.Leaving.{TurnLeaves}
use Rattle.pt_move.specs.Lines.{TellsFront}
use Rattle.pt_move.specs.Promises.{TurnKeeps}
use Rattle.pt_move.specs.Running.{
  BeganSomewhere,
  FedUntilEnd,
  HasBegun,
  InProgress,
  IsBegun,
  IsFresh,
  IsNew,
  TypeInvariant,
  DestFaultStateTold,
  Running,
  as_told,
  fresh_kept,
  run_of,
}
use Rattle.pt_move.specs.Stepping.{Any, BlamesRightly, EndsAs, IsCounted, IsTurn, MakesTurn, StepLeaves, SameDevice as StaysAs, most_calls_at}
use Rattle.pt_move.proofs.Told.{to_told}
use Rattle.pt_move.proofs.Going.{is_going}
use Rattle.pt_move.proofs.Changes.{gains_same, moves_to}
use Rattle.pt_move.proofs.Leaves.{turn_leaves}
use Rattle.pt_move.proofs.Standing.{stands}
use Rattle.pt_invariant.specs.RunInvariant.{RunInvariant, AreStates, Start, TellsAsBefore, start_of}
use Rattle.pt_invariant.specs.DestInvariant.{DestPart, DestFaultStateOfRun}
use Rattle.pt_invariant.proofs.faults.KeptNow.{kept_now}
use Rattle.pt_invariant.proofs.turns_left.EndsWithin.{stops_within_work}
use Rattle.pt_invariant.proofs.turns_left.Within.{new_run_is_within_work, within_work_holds_invariant}
use Rattle.pt_invariant.specs.HeldInvariant.{HeldAt}
use Rattle.pt_invariant.specs.EndLaws.{is_ended}
use Rattle.pt_invariant.specs.History.{History}
use Rattle.pt_invariant.proofs.ends.Permitted.{invariant_enables}
use Rattle.pt_plan.specs.Enabled.{MayMakeContent}
use Rattle.pt_state.specs.declared.job.Job as own
use Rattle.pt_move.specs.Leaving.{Blames}
use Rattle.pt_move.specs.declared.mover.Turn as own_turn
use Rattle.pt_move.specs.declared.mover.Turn.TheVariants as turn

-- ---- what a turn needs

pub fed_going : {here : Phase} (a : Algorithm) (h : Hasher) (fed : List ℕ) → here ≢ phase.Ended → FedUntilEnd here a h fed → HasBeenFed a h fed
fed_going {here} a h fed going was = OnFalse_at (is_going here going) was

pub fed_to_end : (here : Phase) (a : Algorithm) (h : Hasher) (fed : List ℕ) → HasBeenFed a h fed → FedUntilEnd here a h fed
fed_to_end here a h fed was = OnFalse_from (is_ended here) (HasBeenFed a h fed) (λ _. was)

-- the hasher has no part in what the calls need
permits_fed : (job : Job) (here : Phase) (s : State) (fed : List ℕ) (r : Option Reading) (w : Option Writing) → Enabled job here (held_of s fed) r w
    → Enabled job here (held_of s []) r w
unfolding MayMakeContent
permits_fed job (phase.Carrying object (stage.Make part.Staging)) s fed r w may = may
permits_fed job (phase.Opening opening.Begin) s fed r w may = may
permits_fed job phase.Ended s fed r w may = tt
permits_fed _ _ _ _ _ _ may = may

held_at : {job : Job} (start : Start) (states : DeviceStates) (run : Run) → RunInvariant job start states run
    → (past : History) × HeldAt job past run.phase run.kept.held
unfolding RunInvariant
held_at start states run (past, is) = (past, is.held)

module _ (here : Phase) (s : State) (now : DeviceStates) (going : here ≢ phase.Ended) (begun : BeganSomewhere now (record { phase = here; state = s })) where
  -- the start, and that the run is in progress
  pub there : (start : Start) × InProgress start (as_told now) (record { phase = here; state = s })
  unfolding BeganSomewhere IsBegun
  there = begun

  -- its hasher was fed something
  pub was_fed : HasBeenFed s.job.algorithm s.hasher there.1.fed
  was_fed = fed_going s.job.algorithm s.hasher there.1.fed going there.1.was

  abbrev run : Run
  run = record { phase = here; kept = kept_of s there.1.fed }

  is_begun : RunInvariant (job_of s.job) there.0 (as_told now) run
  is_begun = within_work_holds_invariant (job_of s.job) there.0 (as_told now) run there.1.begun

  pub may_turn : Enabled (job_of s.job) here (held_of s []) now.source now.dest
  may_turn = permits_fed (job_of s.job) here s there.1.fed now.source now.dest (invariant_enables (job_of s.job) there.0 (as_told now) run is_begun)

  pub stands_there : Stands here s
  stands_there = stands here s going was_fed (held_at there.0 (as_told now) run is_begun).1

  pub has_fed : HasFed here s.job.algorithm s.hasher
  has_fed = OnFalse_from (is_ended here) ((fed : List ℕ) × HasBeenFed s.job.algorithm s.hasher fed) (λ _. (there.1.fed, was_fed))

pub same_job : (here : Phase) (s s' : State) (old new : DeviceStates) (answer : Answer) → CountedTurn here s s' old new answer → s'.job ≡ s.job
unfolding CountedTurn
same_job here s s' old new answer turned = turned.0

pub is_bounded : (here : Phase) (s : State) → TypeInvariant (record { phase = here; state = s }) → IsBounded (job_of s.job) here (kept_of s [])
is_bounded here s well = well.bounded

-- ---- what it leaves

pub left_by_turn : (here : Phase) (s s' : State) (old new : DeviceStates) (answer : Answer) → here ≢ phase.Ended
    → BeganSomewhere old (record { phase = here; state = s }) → CountedTurn here s s' old new answer
    → TurnLeaves s s' old.log new.log old.failures new.failures answer
unfolding CountedTurn
left_by_turn here s s' old new answer going begun turned =
    let made = turned.1 _ (was_fed here s old going begun) in
    turn_leaves s' made.0 made.1.1

-- what is counted doesn't lean on what the hasher was fed
bounded_fed : {job : Job} {here : Phase} (s : State) {fed : List ℕ} (fed' : List ℕ) → IsBounded job here (kept_of s fed) → IsBounded job here (kept_of s fed')
bounded_fed {job} {here} s {fed} fed' bounded = record {
  lines = bounded.lines;
  turns = bounded.turns;
  few = record
      { rows = bounded.few.rows; lengths = bounded.few.lengths };
  within = within here bounded.within;
  prefix = bounded.prefix;
}
  where
    within : (here : Phase) → IsWithin job here (held_of s fed) s.counts.turns → IsWithin job here (held_of s fed') s.counts.turns
    within (phase.Opening opening.Begin) is = is
    within (phase.Carrying object stage.Open) is = is
    within _ is = is

-- after a turn the run isn't to begin
not_first : (s s' : State) (fed' : List ℕ) (answer : Answer) → phase_after answer ≡ phase.Opening opening.Begin
    → IsBounded (job_of s.job) (phase_after answer) (kept_of s' fed') → s'.counts.turns ≡ s.counts.turns + 1 → ⊥
not_first s s' fed' answer begins bounded turns =
    let none : s'.counts.turns ≡ 0 = rw begins at bounded.within in
    omega (arith, none, turns)

pub well_after : (here : Phase) (s s' : State) (old new : DeviceStates) (answer : Answer) → here ≢ phase.Ended
    → BeganSomewhere old (record { phase = here; state = s }) → TypeInvariant (record { phase = here; state = s }) → s.counts.turns < s.job.limits.turns
    → CountedTurn here s s' old new answer → TypeInvariant (record { phase = phase_after answer; state = s' })
unfolding CountedTurn
well_after here s s' old new answer going begun well more turned =
    let made = turned.1 _ (was_fed here s old going begun) in
    let bounded = turn_keeps_bounds (bounded_fed s _ well.bounded) more made.1.1 in
    record {
      bounded = rw turned.0 (bounded_fed s' [] bounded);
      fresh = λ begins. absurd (not_first s s' made.0 answer begins bounded (turn_leaves {s = s} s' made.0 made.1.1).turns);
    }

-- ---- a run that ends without a turn

-- where the limit of turns was made, nothing was called
pub begun_ends : (start : Start) (states : DeviceStates) (r : Running) {t : Running} → t.phase ≡ phase.Ended → t.state ≡ r.state → IsBegun start states r
    → IsBegun start states t
unfolding IsBegun
begun_ends start states r {t} ended same is =
    rw (ended, same)
    (record { fed = is.fed; was = tt; begun = stops_within_work (job_of r.state.job) start (as_told states) (run_of r is.fed) is.begun })

-- ---- what is left in the destination

left_at : {job : Job} (start : Option Tree) (now : Option Writing) {past : History} {here : Phase} {held : Held} → HeldAt job past here held
    → TellsAsBefore start now (DestPart job past here held) → TellsAsBefore start now (DestFaultStateOfRun job)
left_at None None at tells = tt
left_at None (Some now) at tells = absurd tells
left_at (Some start) None at tells = absurd tells
left_at {job} (Some start) (Some now) {past} {here} {held} at tells = kept_now job past start here held now at tells

left_in : (job : Job) (start : Start) (states : DeviceStates) (r : Run) → RunInvariant job start states r
    → TellsAsBefore start.dest states.dest (DestFaultStateOfRun job)
unfolding RunInvariant
left_in job start states r (past, is) = left_at start.dest states.dest is.held is.dest

pub leaves_behind : (start : Start) (states : DeviceStates) (r : Running) → IsBegun start states r → DestFaultStateTold r.state.job start.dest states.dest
unfolding IsBegun DestFaultStateTold
leaves_behind start states r is = left_in (job_of r.state.job) start (as_told states) (run_of r is.fed)
    (within_work_holds_invariant (job_of r.state.job) start (as_told states) (run_of r is.fed) is.begun)

-- ---- how often the source was called

-- three times at most where the store's top is looked at, which is the first turn, twice where the prefix is read, which is the second, and else once
pub few_calls : (here : Phase) (s : State) → TypeInvariant (record { phase = here; state = s })
    → most_calls here ≤ most_calls_at (record { phase = here; state = s })
few_calls here s well = by here well.bounded.within
  where
    least : (first second : Bool) → 1 ≤ cond first 3 (cond second 2 1)
    least true second = omega (arith)
    least false true = omega (arith)
    least false false = omega (arith)

    one : 1 ≤ most_calls_at (record { phase = here; state = s })
    one = least (s.counts.turns == 0) (s.counts.turns == 1)

    by : (here : Phase) → IsWithin (job_of s.job) here (held_of s []) s.counts.turns → most_calls here ≤ most_calls_at (record { phase = here; state = s })
    by (phase.Opening opening.Begin) within = rw within (omega (arith))
    by (phase.Opening (opening.Prefix here)) within = rw within (omega (arith))
    by _ _ = one

-- ---- by the answer

-- the counts of failures
pub ok_blames : (s s' : State) (old new : DeviceStates) (next : Phase) (t : own_turn.Turn) → TurnLeaves s s' old.log new.log old.failures new.failures (Ok next)
    → BlamesRightly old new (Ok t)
unfolding BlamesRightly
ok_blames s s' old new next t left = record {
  source = ap (λ (f : Failures). f.source) left.failures;
  dest = ap (λ (f : Failures). f.dest) left.failures;
  log = ap (λ (f : Failures). f.log) left.failures;
}

none_blamed : (old new : DeviceStates) (f : Fault) → new.failures ≡ old.failures
    → Rose (fault_number f == 1) old.failures.source new.failures.source ≡ (new.failures.source ≡ old.failures.source)
    → Rose (fault_number f == 2) old.failures.dest new.failures.dest ≡ (new.failures.dest ≡ old.failures.dest)
    → Rose (fault_number f == 3) old.failures.log new.failures.log ≡ (new.failures.log ≡ old.failures.log) → BlamesRightly {T = own_turn.Turn} old new (Err f)
unfolding BlamesRightly
none_blamed old new f same a b c = record {
  source = rw a (ap (λ (f : Failures). f.source) same);
  dest = rw b (ap (λ (f : Failures). f.dest) same);
  log = rw c (ap (λ (f : Failures). f.log) same);
}

blames_by : (why : Fault) (old new : DeviceStates) → Blames why old.failures new.failures → BlamesRightly {T = own_turn.Turn} old new (Err why)
unfolding BlamesRightly
blames_by fault.Source old new is = record { source = is.0; dest = is.1; log = is.2 }
blames_by fault.Dest old new is = record { source = is.0; dest = is.1; log = is.2 }
blames_by fault.Log old new is = record { source = is.0; dest = is.1; log = is.2 }
blames_by why old new is = none_blamed old new why is refl refl refl

pub err_blames : (s s' : State) (old new : DeviceStates) (why : Fault) → TurnLeaves s s' old.log new.log old.failures new.failures (Err why)
    → BlamesRightly {T = own_turn.Turn} old new (Err why)
err_blames s s' old new why left = blames_by why old new left.failures

pub none_blamed_for_turns : (w : DeviceStates) → BlamesRightly {T = own_turn.Turn} w w (Err fault.Turns)
unfolding BlamesRightly
none_blamed_for_turns w = record { source = refl; dest = refl; log = refl }

pub none_blamed_for_ended : (w : DeviceStates) → BlamesRightly {T = own_turn.Turn} w w (Err fault.Ended)
unfolding BlamesRightly
none_blamed_for_ended w = record { source = refl; dest = refl; log = refl }

-- a fault of a turn is no answer of a run that made none
pub err_answer : (old new : Running) (g g' : Option (List ℕ)) (F F' : Failures) (why : Fault) → IsOfTurn why → IsTurn old → new.phase ≡ phase.Ended
    → TurnLeaves old.state new.state g g' F F' (Err why) → EndsAs old new (Err why)
err_answer _ _ _ _ _ _ fault.Turns own _ _ _ = absurd own
err_answer _ _ _ _ _ _ fault.Ended own _ _ _ = absurd own
err_answer _ _ _ _ _ _ _ _ turn ended _ = (turn, ended)

pub err_counted : (old new : Running) {g : Option (List ℕ)} (g' : Option (List ℕ)) (F F' : Failures) (why : Fault) → IsOfTurn why
    → TurnLeaves old.state new.state g g' F F' (Err why) → IsCounted old new (Err why)
err_counted old new g' F F' fault.Turns own left = absurd own
err_counted old new g' F F' fault.Ended own left = absurd own
err_counted old new g' F F' _ _ left = (left.turns, left.lines)

pub err_stays : {X : Type 0} (why : Fault) (old new : X) → IsOfTurn why → StaysAs Any (Err why) old new
err_stays fault.Turns old new own = absurd own
err_stays fault.Ended old new own = absurd own
err_stays _ _ _ _ = tt

new_bounded : (job : Job) → IsBounded job (phase.Opening opening.Begin) fresh_kept
new_bounded job = record {
  lines = omega (arith);
  turns = omega (arith);
  few = record { rows = omega (arith); lengths = omega (arith) };
  within = refl;
  prefix = omega (arith);
}

pub is_fresh : {job : own.Job} {r : Running} → IsNew job r → IsFresh r.state
is_fresh new = record { kept = new.kept; fed = rw new.job_is new.fed }

pub new_well : (job : own.Job) (r : Running) → IsNew job r → TypeInvariant r
new_well job r new = record { bounded = rw (new.kept, new.phase) (new_bounded (job_of r.state.job)); fresh = λ begins. is_fresh new }

pub same_begun : (start : Start) (states : DeviceStates) {r t : Running} → t ≡ r → IsBegun start states r → IsBegun start states t
same_begun start states same is = rw same is

-- nothing was put
pub told_nothing : {g : Option (List ℕ)} (g' : Option (List ℕ)) {c : Report} (c' : Report) → g' ≡ g → c' ≡ c → TellsFront g g' c c'
unfolding TellsFront
told_nothing g' c' same counts = (inl same, (ap (λ (k : Report). k.done) counts, ap (λ (k : Report). k.present) counts, ap (λ (k : Report). k.skipped) counts))

pub ended_well : (r : Running) (s : Running) → TypeInvariant r → s.phase ≡ phase.Ended → s.state ≡ r.state → TypeInvariant s
ended_well r s well ended same = record {
  bounded = rw (ended, same) (record {
    lines = well.bounded.lines;
    turns = well.bounded.turns;
    few = record
        { rows = well.bounded.few.rows; lengths = well.bounded.few.lengths };
    within = tt;
    prefix = well.bounded.prefix;
  });
  fresh = λ begins. absurd (let no : phase.Ended ≡ (phase.Opening opening.Begin) = sym ended ∙ begins in cc);
}

-- one that is to begin began where the devices stand
pub first_begun : (r : Running) (states : DeviceStates) → r.phase ≡ phase.Opening opening.Begin → IsFresh r.state → IsLayout r.state.job.layout
    → AreStates states → IsBegun (start_of states) states r
unfolding IsBegun
first_begun r states begins fresh layout is = record {
  fed = [];
  was = fed_to_end r.phase r.state.job.algorithm r.state.hasher [] fresh.fed;
  begun = rw run_is (to_told (job_of r.state.job) (start_of states) states new_run (new_run_is_within_work (job_of r.state.job) states layout is));
}
  where
    run_is : run_of r [] ≡ new_run
    run_is = λ i. record { phase = begins i; kept = fresh.kept i }

-- a run that is to begin, or began somewhere, began somewhere
pub begun_somewhere : {r : Running} {states : DeviceStates} → HasBegun states r → TypeInvariant r → IsLayout r.state.job.layout → AreStates states
    → BeganSomewhere states r
unfolding HasBegun BeganSomewhere
begun_somewhere (inr begun) well layout is = begun
begun_somewhere {r} {states} (inl begins) well layout is = (start_of states, first_begun r states begins (well.fresh begins) layout is)

pub begun_seen : (r t : Running) (states : DeviceStates) → t ≡ r → HasBegun states r → TypeInvariant t → IsLayout t.state.job.layout → AreStates states
    → BeganSomewhere states r
begun_seen r t states same begun well layout is = begun_somewhere begun (rw same at well) (rw same at layout) is

pub has_begun : (start : Start) (states : DeviceStates) (r : Running) → IsBegun start states r → HasBegun states r
unfolding HasBegun
has_begun start states r begun = inr (start, begun)

pub goes_on_after : (here next : Phase) (s s' : State) (old new : DeviceStates) → BeganSomewhere old (record { phase = here; state = s })
    → ((start : Start) → IsBegun start old (record { phase = here; state = s }) → TurnKeeps start old new s s' (Ok next))
    → HasBegun new (record { phase = next; state = s' })
unfolding HasBegun BeganSomewhere TurnKeeps
goes_on_after here next s s' old new (start, begun) on = inr (start, (on start begun).begun)

pub goes_on_halted : (here after : Phase) (s s' : State) (old new : DeviceStates) (why : Fault) → after ≡ phase.Ended
    → BeganSomewhere old (record { phase = here; state = s }) → ((start : Start) → IsBegun start old (record { phase = here; state = s })
    → TurnKeeps start old new s s' (Err why)) → HasBegun new (record { phase = after; state = s' })
unfolding HasBegun BeganSomewhere TurnKeeps
goes_on_halted here after s s' old new why ended (start, begun) on = inr (start, rw ended (on start begun).begun)

pub goes_on_ended : (r t : Running) (states : DeviceStates) → BeganSomewhere states r → t.phase ≡ phase.Ended → t.state ≡ r.state → HasBegun states t
unfolding HasBegun BeganSomewhere
goes_on_ended r t states (start, begun) ended same = inr (start, begun_ends start states r ended same begun)

pub goes_on_same : (r t : Running) (states : DeviceStates) → t ≡ r → HasBegun states r → HasBegun states t
goes_on_same r t states same is = rw same is

pub begins_begun : (r : Running) (states : DeviceStates) → r.phase ≡ phase.Opening opening.Begin → HasBegun states r
unfolding HasBegun
begins_begun r states begins = inl begins

-- ---- what a step leaves

module _ (before after : Running) (old new : DeviceStates) (job : after.state.job ≡ before.state.job) (tree : tree_in new.source ≡ tree_in old.source) where
  pub leaves_more : (next : Phase) → TurnLeaves before.state after.state old.log new.log old.failures new.failures (Ok next)
      → StepLeaves old new before after (Ok turn.More)
  unfolding StepLeaves
  leaves_more next left = record {
    tree = tree;
    job = job;
    turns = (left.turns, left.lines);
    told = left.told;
    finished = tt;
    trail = left.trail;
    rows = left.rows;
    contents = left.contents;
  }

  pub leaves_finished : (next : Phase) → next ≡ phase.Ended → TurnLeaves before.state after.state old.log new.log old.failures new.failures (Ok next)
      → StepLeaves old new before after (Ok turn.Finished)
  unfolding StepLeaves
  leaves_finished next ended left =
      let last : TurnLeaves before.state after.state old.log new.log old.failures new.failures (Ok phase.Ended) = rw ended at left in
      record {
        tree = tree;
        job = job;
        turns = (left.turns, left.lines);
        told = left.told;
        finished = last.ended;
        trail = left.trail;
        rows = left.rows;
        contents = left.contents;
      }

  pub leaves_halted : (why : Fault) → IsOfTurn why → TurnLeaves before.state after.state old.log new.log old.failures new.failures (Err why)
      → StepLeaves old new before after (Err why)
  unfolding StepLeaves
  leaves_halted why own left = record {
    tree = tree;
    job = job;
    turns = err_counted before after _ _ _ why own left;
    told = left.told;
    finished = tt;
    trail = left.trail;
    rows = left.rows;
    contents = left.contents;
  }

-- no turn was made
same_left : (before after : Running) (w : DeviceStates) (f : Fault) → IsCounted before after (Err f) → after.state ≡ before.state
    → StepLeaves w w before after (Err f)
unfolding StepLeaves
same_left before after w f counted same = record {
  tree = refl;
  job = ap (λ (s : State). s.job) same;
  turns = counted;
  told = told_nothing w.log _ refl (ap (λ (s : State). s.counts) same);
  finished = tt;
  trail = moves_to after.state.trail (ap (λ (s : State). s.trail) same);
  rows = gains_same (ap (λ (s : State). s.rows) same);
  contents = gains_same (ap (λ (s : State). s.contents) same);
}

pub leaves_at_limit : (before after : Running) (w : DeviceStates) → after.state ≡ before.state → StepLeaves w w before after (Err fault.Turns)
leaves_at_limit before after w same = same_left before after w fault.Turns (ap (λ (s : State). s.counts) same) same

pub leaves_ended : (before after : Running) (w : DeviceStates) → after.state ≡ before.state → StepLeaves w w before after (Err fault.Ended)
leaves_ended before after w same = same_left before after w fault.Ended (ap (λ (s : State). s.counts) same) same

-- ---- the turn that it made

pub turned_more : (here next : Phase) (s s' : State) (old new : DeviceStates) → CountedTurn here s s' old new (Ok next)
    → MakesTurn old new (record { phase = here; state = s }) (record { phase = next; state = s' }) (Ok turn.More)
unfolding MakesTurn
turned_more here next s s' old new turned = turned

pub turned_last : (here next : Phase) (s s' : State) (old new : DeviceStates) → next ≡ phase.Ended → CountedTurn here s s' old new (Ok next)
    → MakesTurn old new (record { phase = here; state = s }) (record { phase = phase.Ended; state = s' }) (Ok turn.Finished)
unfolding MakesTurn
turned_last here next s s' old new ended turned = rw ended at turned

pub turned_halted : (why : Fault) (before after : Running) (old new : DeviceStates) → IsOfTurn why
    → CountedTurn before.phase before.state after.state old new (Err why) → MakesTurn old new before after (Err why)
unfolding MakesTurn
turned_halted fault.Turns before after old new own turned = absurd own
turned_halted fault.Ended before after old new own turned = absurd own
turned_halted _ _ _ _ _ _ turned = turned

pub no_turn_at_limit : (before after : Running) (w : DeviceStates) → TypeInvariant before → before.state.job.limits.turns ≤ before.state.counts.turns
    → after.state ≡ before.state → MakesTurn w w before after (Err fault.Turns)
unfolding MakesTurn
no_turn_at_limit before after w well made same = (same, refl, let most = well.bounded.turns in omega (arith, most, made))

pub no_turn_ended : (before after : Running) (w : DeviceStates) → after ≡ before → MakesTurn w w before after (Err fault.Ended)
unfolding MakesTurn
no_turn_ended before after w same = (same, refl)

pub ruleset making_turn = (may_turn, stands_there, has_fed, is_bounded, left_by_turn, well_after, few_calls)

pub ruleset stepping = (
  same_job,
  goes_on_after,
  goes_on_halted,
  goes_on_ended,
  goes_on_same,
  begins_begun,
  ended_well,
  err_answer,
  err_stays,
  new_well,
  ok_blames,
  err_blames,
  none_blamed_for_turns,
  none_blamed_for_ended,
  leaves_more,
  leaves_finished,
  leaves_halted,
  leaves_at_limit,
  leaves_ended,
  turned_more,
  turned_last,
  turned_halted,
  no_turn_at_limit,
  no_turn_ended,
)
