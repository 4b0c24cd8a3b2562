-- What a step of a survey leaves, whatever it answers, and that it says rightly why it halts.
use Rattle.std.proofs.Common.{◌≡◌, ◌<◌, arith, ℕ, true, false, List, refl, ap, sym, subst, take}
use Rattle.std.specs.Prelude.{◌==◌, Option, None, Some, Result, Ok, Err}
use Rattle.std.proofs.lemmas.Bool.{true≢false}
use Rattle.pt_tree.specs.Dest.{Writing}
use Rattle.pt_tree.specs.Source.{Reading, tree_in}
use Rattle.pt_plan.specs.Answer.{Answer, phase_after}
use Rattle.pt_plan.specs.Job.{Job}
use Rattle.pt_plan.specs.Lines.{Line, line_text}
use Rattle.pt_plan.specs.Run.{Counts, Held, Kept}
use Rattle.pt_plan.specs.Turn.{
  Did,
  FailsAtFirst,
  FailsLater,
  Next,
  GoesOn as TurnGoesOn,
  IsRefused,
  FailsPartway,
  FailsUnchanged,
  Make,
  Place,
  Scan,
  Start,
  Turn,
  Walk,
  HasFailed,
}
use Rattle.pt_plan.specs.TurnMake as make
use Rattle.pt_plan.specs.TurnPlace as place
use Rattle.pt_plan.specs.TurnStart as start
use Rattle.pt_plan.specs.DeviceStates.{Calls, Failures, LeavesFront, Puts, DeviceStates}
use Rattle.pt_plan.specs.declared.fault.Fault.{Fault}
use Rattle.pt_plan.specs.declared.fault.Fault.TheVariants as fault
use Rattle.pt_plan.specs.declared.phase.Phase.{Phase}
use Rattle.pt_plan.specs.declared.phase.Phase.TheVariants as phase
use Rattle.pt_state.specs.Outside.{states}
use Rattle.pt_state.specs.States.{job_of}
use Rattle.pt_state.specs.declared.job.Job as own
use Rattle.pt_state.specs.declared.state.State.{State}
use Rattle.pt_move.specs.Running.{TypeInvariant}
use Rattle.pt_move.specs.Turning.{CountedTurn}
use Rattle.pt_move.specs.Counting.{Rose}
use Rattle.pt_plan.specs.RunFaults.{IsOfTurn, fault_number}
use Rattle.pt_invariant.proofs.refusals.Reasons.{of_turn}
use Rattle.pt_move.specs.Leaving.{TurnLeaves}
use Rattle.pt_move.specs.Outcome.{HoldsWithinBound}
use Rattle.pt_move.specs.Promises.{TurnKeeps}
use Rattle.pt_move.proofs.Answering.{fed_going, left_by_turn, well_after}
use Rattle.pt_move.proofs.Keeping.{keeps_after, tree_stays}
use Rattle.pt_tree.specs.Failures.{HasRisen}
use Rattle.pt_audit.specs.EmptyDest.{bare}
use Rattle.pt_audit.specs.Growing.{BlamesRightly, Leaves}
use Rattle.pt_tree.specs.Log.{Grows}
use Rattle.pt_tree.proofs.Growing.{grows_none}
use Rattle.pt_audit.specs.Surveying.{SurveySays, is_of_dest, Surveys, is_of_survey, no_start, passed}
use Rattle.pt_audit.proofs.Alone.{counted_alone}
use Rattle.pt_audit.proofs.Stepping.{began, going, is_begun, passed_well}

-- ---- what a turn leaves, whatever it answers

module _ (here : Phase) (s s' : State) (told told' : Option Reading) (w v : Option Writing) (l l' : Option (List ℕ)) (a b c a' b' c' : ℕ) (answer : Answer)
  where
    abbrev Old : DeviceStates
    Old = states told None None a b c

    abbrev New : DeviceStates
    New = states told' None None a' b' c'

    abbrev Counted : Type 0
    Counted = CountedTurn here s s' (states told w l a b c) (states told' v l' a' b' c') answer

    alone : Counted → CountedTurn here s s' Old New answer
    alone counted = counted_alone here s s' told told' w v l l' a b c a' b' c' answer counted

    pub tree_of_turn : Surveys told (record { phase = here; state = s }) → Counted → tree_in told' ≡ tree_in told
    unfolding Surveys
    tree_of_turn (count, it) counted = tree_stays here s s' Old New answer (going here it.stands) (began a b c it) (alone counted)

    pub well_of_turn : Surveys told (record { phase = here; state = s }) → TypeInvariant (record { phase = here; state = s })
        → s.counts.turns < s.job.limits.turns → Counted → TypeInvariant (record { phase = phase_after answer; state = s' })
    unfolding Surveys
    well_of_turn (count, it) well more counted = well_after here s s' Old New answer (going here it.stands) (began a b c it) well more (alone counted)

    pub leaves_of_turn : Surveys told (record { phase = here; state = s }) → Counted
        → TurnLeaves s s' None None (record { source = a; dest = b; log = c }) (record { source = a'; dest = b'; log = c' }) answer
    unfolding Surveys
    leaves_of_turn (count, it) counted = left_by_turn here s s' Old New answer (going here it.stands) (began a b c it) (alone counted)

-- what stood in the log stands
put_grows : (line : Option Line) (l l' : Option (List ℕ)) → Puts line l l' → Grows l l'
unfolding Puts
put_grows None l l' same = subst (Grows l) (sym same) (grows_none l)
put_grows (Some line) l l' puts = (line_text line, puts)

front_grows : (line : Option Line) (l l' : Option (List ℕ)) → LeavesFront line l l' → Grows l l'
front_grows None l l' same = subst (Grows l) (sym same) (grows_none l)
front_grows (Some line) l l' (n, puts) = (take n (line_text line), puts)

pub log_of_turn : (here : Phase) (s s' : State) (told told' : Option Reading) (w v : Option Writing) (l l' : Option (List ℕ)) (a b c a' b' c' : ℕ)
    (answer : Answer) → Surveys told (record { phase = here; state = s }) → CountedTurn here s s' (states told w l a b c) (states told' v l' a' b' c') answer
    → Grows l l'
unfolding Surveys CountedTurn Did FailsUnchanged FailsPartway
log_of_turn here s s' told told' w v l l' a b c a' b' c' answer (count, it) counted =
    by (counted.1 it.fed (fed_going s.job.algorithm s.hasher it.fed (going here it.stands) it.was)).1.1
  where
    by : {before after : Kept} {answer : Answer} → Turn (job_of s.job) here before after (states told w l a b c) (states told' v l' a' b' c') answer
        → Grows l l'
    by (TurnGoesOn calls _ _ did _) = put_grows calls.line l l' did.0.log
    by (IsRefused _ _ calls _ _ did _) = put_grows calls.line l l' did.0.log
    by (FailsAtFirst _ stays _) = subst (Grows l) (sym stays.2) (grows_none l)
    by (FailsLater _ _ calls _ _ _ _ left _ _) = front_grows calls.line l l' left.0.log

-- whom it blames
risen_none : HasRisen 0 0 → ⊥
risen_none risen = absurd (omega (arith, risen))

pub blames_halted : {T : Type 0} {s s' : State} {a c a' c' : ℕ} (why : Fault)
    → TurnLeaves s s' None None (record { source = a; dest = 0; log = c }) (record { source = a'; dest = 0; log = c' }) (Err why)
    → BlamesRightly {T = T} a a' c c' (Err why)
blames_halted fault.Source left = record { source_is = left.failures.0; log_is = left.failures.2; no_dest = λ is. absurd (cc) }
blames_halted fault.Dest left = absurd (risen_none left.failures.1)
blames_halted fault.Log left = record { source_is = left.failures.0; log_is = left.failures.2; no_dest = λ is. absurd (cc) }
blames_halted _ left = record {
  source_is = ap (λ (f : Failures). f.source) left.failures;
  log_is = ap (λ (f : Failures). f.log) left.failures;
  no_dest = λ is.
      absurd (cc);
}

pub blames_none : {T : Type 0} {x : T} {s s' : State} {a c a' c' : ℕ} (next : Phase)
    → TurnLeaves s s' None None (record { source = a; dest = 0; log = c }) (record { source = a'; dest = 0; log = c' }) (Ok next)
    → BlamesRightly {T = T} a a' c c' (Ok x)
blames_none next left = record { source_is = ap (λ (f : Failures). f.source) left.failures; log_is = ap (λ (f : Failures). f.log) left.failures; no_dest = tt }

-- where it halts it says so rightly
-- no turn of a survey refuses a destination
start_refuses : {job : Job} {here : Phase} {prefix read : List ℕ} {calls : Calls} {why : Fault} → start.StartStep job here prefix read calls (Err why)
    → is_of_survey here ≡ true → is_of_dest why ≡ false
start_refuses (start.HasNoVersion _ _ _ _) is = refl
start_refuses (start.HasNoPairtree _ _ _) is = refl
start_refuses (start.IsNoPrefixFile _ _ _ _) is = refl
start_refuses (start.IsNoPrefix _ _ _ _) is = refl
start_refuses _ is = absurd (true≢false (sym is))

refuses : {job : Job} {counts : Counts} {here : Phase} {prefix read : List ℕ} {held after : Held} {calls : Calls} {why : Fault}
    → Next job counts here prefix held read after calls (Err why) → is_of_survey here ≡ true → is_of_dest why ≡ false
refuses (Start turn) is = start_refuses turn is
refuses (Walk turn) is = elim turn [ ]
refuses (Scan turn) is = elim turn [ ]
refuses (Make (make.ReadsMore _ _ _ _ _ _ _)) is = refl
refuses (Make (make.ReadsOther _ _ _ _ _ _ _)) is = refl
refuses (Place (place.IsInTheWay _ _ _ _ _)) is = absurd (true≢false (sym is))

fails_rightly : (why : Fault) (a c a' c' : ℕ) → HasFailed why (record { source = a; dest = 0; log = c }) (record { source = a'; dest = 0; log = c' })
    → is_of_dest why ≡ false
fails_rightly fault.Source _ _ _ _ failed = refl
fails_rightly fault.Dest _ _ _ _ failed = absurd (risen_none failed.1)
fails_rightly fault.Log _ _ _ _ failed = refl
fails_rightly fault.Memory _ _ _ _ failed = refl
fails_rightly _ _ _ _ _ failed = absurd failed

no_turns : (why : Fault) → IsOfTurn why → why ≡ fault.Turns → ⊥
no_turns why own is = subst IsOfTurn is own

no_end : (why : Fault) → IsOfTurn why → why ≡ fault.Ended → ⊥
no_end why own is = subst IsOfTurn is own

pub says_of_turn : (here : Phase) (s s' : State) (told told' : Option Reading) (w v : Option Writing) (l l' : Option (List ℕ)) (a c a' c' : ℕ) (why : Fault)
    → Surveys told (record { phase = here; state = s }) → CountedTurn here s s' (states told w l a 0 c) (states told' v l' a' 0 c') (Err why)
    → (at : Phase) → SurveySays s.job at (tree_in told) why
unfolding Surveys TurnKeeps CountedTurn Did FailsUnchanged FailsPartway
says_of_turn here s s' told told' w v l l' a c a' c' why (count, it) counted at = record {
  rightly = (keeps_after here s s' (states told None None a 0 c) (states told' None None a' 0 c') (Err why) (going here it.stands)
      (counted_alone here s s' told told' w v l l' a 0 c a' 0 c' (Err why) counted) no_start (is_begun a 0 c it)).says.says;
  no_dest = by (counted.1 it.fed (fed_going s.job.algorithm s.hasher it.fed (going here it.stands) it.was)).1.1;
  turns = λ is. absurd (no_turns why (of_turn (counted.1 it.fed (fed_going s.job.algorithm s.hasher it.fed (going here it.stands) it.was)).1.1) is);
  ended = λ is. absurd (no_end why (of_turn (counted.1 it.fed (fed_going s.job.algorithm s.hasher it.fed (going here it.stands) it.was)).1.1) is);
}
  where
    by : {before after : Kept} {why : Fault} → Turn (job_of s.job) here before after (states told w l a 0 c) (states told' v l' a' 0 c') (Err why)
        → is_of_dest why ≡ false
    by (IsRefused _ _ _ _ follows _ _) = refuses follows it.stands
    by (FailsAtFirst why stays _) = fails_rightly why _ _ _ _ stays.3
    by (FailsLater _ _ _ _ _ why _ left _ _) = fails_rightly why _ _ _ _ left.1

-- what is held after it
pub bound_of_turn : (here : Phase) (s s' : State) (told told' : Option Reading) (w v : Option Writing) (l l' : Option (List ℕ)) (a b c a' b' c' : ℕ)
    (answer : Answer) → Surveys told (record { phase = here; state = s }) → CountedTurn here s s' (states told w l a b c) (states told' v l' a' b' c') answer
    → HoldsWithinBound s.job (tree_in told) s'
unfolding Surveys TurnKeeps
bound_of_turn here s s' told told' w v l l' a b c a' b' c' answer (count, it) counted =
    (keeps_after here s s' (states told None None a b c) (states told' None None a' b' c') answer (going here it.stands)
    (counted_alone here s s' told told' w v l l' a b c a' b' c' answer counted) no_start (is_begun a b c it)).bound

-- what it leaves
pub leaves_ok : (here next : Phase) (s s' : State) (told told' : Option Reading) (v : Option Writing) (l l' : Option (List ℕ)) (a c a' c' : ℕ)
    → Surveys told (record { phase = here; state = s }) → CountedTurn here s s' (states told (Some bare) l a 0 c) (states told' v l' a' 0 c') (Ok next)
    → Leaves (states told (Some bare) l a 0 c) (states told' (Some bare) l' a' 0 c') s.job (Ok (passed next))
leaves_ok here next s s' told told' v l l' a c a' c' it counted = record {
  tree = tree_of_turn here s s' told told' (Some bare) v l l' a 0 c a' 0 c' (Ok next) it counted;
  grows = log_of_turn here s s' told told' (Some bare) v l l' a 0 c a' 0 c' (Ok next) it counted;
  blames = blames_none next (leaves_of_turn here s s' told told' (Some bare) v l l' a 0 c a' 0 c' (Ok next) it counted);
  says = tt;
}

pub leaves_err : (here : Phase) (why : Fault) (s s' : State) (told told' : Option Reading) (v : Option Writing) (l l' : Option (List ℕ)) (a c a' c' : ℕ)
    → Surveys told (record { phase = here; state = s }) → CountedTurn here s s' (states told (Some bare) l a 0 c) (states told' v l' a' 0 c') (Err why)
    → Leaves (states told (Some bare) l a 0 c) (states told' (Some bare) l' a' 0 c') s.job (Err why)
leaves_err here why s s' told told' v l l' a c a' c' it counted = record {
  tree = tree_of_turn here s s' told told' (Some bare) v l l' a 0 c a' 0 c' (Err why) it counted;
  grows = log_of_turn here s s' told told' (Some bare) v l l' a 0 c a' 0 c' (Err why) it counted;
  blames = blames_halted why (leaves_of_turn here s s' told told' (Some bare) v l l' a 0 c a' 0 c' (Err why) it counted);
  says = says_of_turn here s s' told told' (Some bare) v l l' a c a' c' why it counted;
}

-- of a turn that tells nothing, over a log that isn't touched
pub leaves_log : {told told' : Option Reading} (l : Option (List ℕ)) {a a' : ℕ} (c : ℕ) {job : own.Job} {result : Result Phase Fault}
    → Leaves (states told (Some bare) None a 0 0) (states told' (Some bare) None a' 0 0) job result
    → Leaves (states told (Some bare) l a 0 c) (states told' (Some bare) l a' 0 c) job result
leaves_log l c {result = Ok next} it = record {
  tree = it.tree;
  grows = grows_none l;
  blames = record
      { source_is = it.blames.source_is; log_is = refl; no_dest = tt };
  says = tt;
}
leaves_log l c {result = Err why} it = record {
  tree = it.tree;
  grows = grows_none l;
  blames = record
      { source_is = it.blames.source_is; log_is = never why it.blames.log_is; no_dest = it.blames.no_dest };
  says = it.says;
}
  where
    never : (why : Fault) → Rose (fault_number why == 3) 0 0 → Rose (fault_number why == 3) c c
    never fault.Source is = refl
    never fault.Dest is = refl
    never fault.Log is = absurd (risen_none is)
    never _ is = refl

-- so it is where the object at hand was passed
pub leaves_passed : (here next : Phase) (s s' : State) (told told' : Option Reading) (v : Option Writing) (l : Option (List ℕ)) (c a a' : ℕ)
    → Surveys told (record { phase = here; state = s }) → CountedTurn here s s' (states told (Some bare) None a 0 0) (states told' v None a' 0 0) (Ok next)
    → Leaves (states told (Some bare) l a 0 c) (states told' (Some bare) l a' 0 c) s.job (Ok (passed next))
leaves_passed here next s s' told told' v l c a a' it counted = leaves_log l c (leaves_ok here next s s' told told' v None None a 0 a' 0 it counted)

pub leaves_halted : (here : Phase) (why : Fault) (s s' : State) (told told' : Option Reading) (v : Option Writing) (l : Option (List ℕ)) (c a a' : ℕ)
    → Surveys told (record { phase = here; state = s }) → CountedTurn here s s' (states told (Some bare) None a 0 0) (states told' v None a' 0 0) (Err why)
    → Leaves (states told (Some bare) l a 0 c) (states told' (Some bare) l a' 0 c) s.job (Err why)
leaves_halted here why s s' told told' v l c a a' it counted = leaves_log l c (leaves_err here why s s' told told' v None None a 0 a' 0 it counted)

pub well_ok : (here next : Phase) (s s' : State) (told told' : Option Reading) (v : Option Writing) (l l' : Option (List ℕ)) (a b c a' b' c' : ℕ)
    → Surveys told (record { phase = here; state = s }) → TypeInvariant (record { phase = here; state = s }) → s.counts.turns < s.job.limits.turns
    → CountedTurn here s s' (states told (Some bare) l a b c) (states told' v l' a' b' c') (Ok next)
    → TypeInvariant (record { phase = passed next; state = s' })
well_ok here next s s' told told' v l l' a b c a' b' c' it well more counted = passed_well next
    (well_of_turn here s s' told told' (Some bare) v l l' a b c a' b' c' (Ok next) it well more counted)

pub well_err : (here : Phase) (why : Fault) (s s' : State) (told told' : Option Reading) (v : Option Writing) (l l' : Option (List ℕ)) (a b c a' b' c' : ℕ)
    → Surveys told (record { phase = here; state = s }) → TypeInvariant (record { phase = here; state = s }) → s.counts.turns < s.job.limits.turns
    → CountedTurn here s s' (states told (Some bare) l a b c) (states told' v l' a' b' c') (Err why)
    → TypeInvariant (record { phase = phase.Ended; state = s' })
well_err here why s s' told told' v l l' a b c a' b' c' it well more counted = well_of_turn here s s' told told' (Some bare) v l l' a b c a' b' c' (Err why) it
    well more counted
