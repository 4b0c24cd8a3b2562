-- The rules by which a survey's functions are proved: how it begins, when it makes no step, and what becomes of a turn's answer.
use Rattle.std.proofs.Common.{◌≡◌, ◌⊎◌, inl, inr, ◌≤◌, arith, ℕ, true, List, [], refl, ap, sym, ◌∙◌, subst}
use Rattle.std.specs.Prelude.{IfErr, Option, None, Some, Result, Ok, Err}
use Rattle.std.specs.Option.{ForSome}
use Rattle.pt_name.specs.Tuples.{IsLayout}
use Rattle.pt_object.specs.Hasher.{HasBeenFed}
use Rattle.pt_tree.specs.Dest.{Writing}
use Rattle.pt_tree.specs.Forest.{Forest, is_proper}
use Rattle.pt_tree.specs.Source.{Reading, tree_in}
use Rattle.pt_plan.specs.Answer.{Answer, phase_after}
use Rattle.pt_plan.specs.Run.{Run, new_run}
use Rattle.pt_plan.specs.declared.fault.Fault.{Fault}
use Rattle.pt_plan.specs.declared.fault.Fault.TheVariants as fault
use Rattle.pt_plan.specs.declared.phase.Phase.{Phase}
use Rattle.pt_plan.specs.declared.phase.Phase.TheVariants as phase
use Rattle.pt_invariant.specs.RunInvariant.{IsHistory}
use Rattle.pt_invariant.specs.History.{no_history}
use Rattle.pt_invariant.proofs.ends.NewRun.{new_past}
use Rattle.pt_state.specs.Outside.{states}
use Rattle.pt_state.specs.States.{job_of}
use Rattle.pt_state.specs.declared.job.Job as own
use Rattle.pt_state.specs.declared.state.State.{State}
use Rattle.pt_move.specs.Running.{IsNew, TypeInvariant, Running, run_of}
use Rattle.pt_move.specs.Turning.{CountedTurn}
use Rattle.pt_move.specs.Outcome.{SaysRightly}
use Rattle.pt_move.proofs.Answering.{fed_to_end}
use Rattle.pt_audit.specs.EmptyDest.{bare}
use Rattle.pt_audit.specs.Growing.{Leaves}
use Rattle.pt_tree.proofs.Growing.{grows_none}
use Rattle.pt_audit.specs.Surveying.{
  GoesOn,
  IsReady,
  IsSurvey,
  IsWithinWork,
  SurveySays,
  is_at_hand,
  Surveys,
  is_looking,
  is_of_survey,
  no_start,
  passed,
  source_alone,
}
use Rattle.pt_move.specs.Unmet.{AreUnmet}
use Rattle.pt_state.specs.States.{IsUnmetAfter}
use Rattle.pt_audit.proofs.Working.{is_left}
use Rattle.pt_audit.proofs.Stepping.{fed_so, going, looking_is, looks, may_look, passes_there, stands_so}
use Rattle.pt_audit.proofs.StepLeaves.{leaves_err, leaves_halted, leaves_ok, leaves_passed, well_err, well_ok}

-- ---- a survey that is to begin

pub new_survey : (r : Running) (job : own.Job) → IsNew job r → IsLayout job.layout → (told : Option Reading) → ForSome told (λ s. is_proper s.tree ≡ true)
    → IsSurvey told 0 r
new_survey r job new layout told proper = record {
  fed = [];
  was = fed_to_end r.phase r.state.job.algorithm r.state.hasher [] (subst (λ j. HasBeenFed j.algorithm r.state.hasher []) (sym new.job_is) new.fed);
  past = no_history;
  seen = refl;
  is = subst (λ j. IsHistory (job_of j) no_start (source_alone told) (run_of r []) no_history) (sym new.job_is)
      (subst (λ (run : Run). IsHistory (job_of job) no_start (source_alone told) run no_history) (sym run_is)
      (new_past {states = source_alone told} layout (record { source = proper; dest = λ s e. absurd (cc) })));
  within = subst (λ j. ForSome told (λ s. IsWithinWork (job_of j) s.tree 0 (run_of r []))) (sym new.job_is)
      (subst (λ (run : Run). ForSome told (λ s. IsWithinWork (job_of job) s.tree 0 run)) (sym run_is) (λ s is. omega arith));
  unmet = λ s is. subst (λ (p : Phase). AreUnmet (job_of r.state.job) s.tree p 0 r.state.unmet) (sym new.phase) tt;
  stands = ap is_of_survey new.phase;
}
  where
    run_is : run_of r [] ≡ new_run
    run_is = λ i. record { phase = new.phase i; kept = new.kept i }

-- a step that isn't made
pub says_no_turn : (told : Option Reading) (r : Running) → Surveys told r → r.state.job.limits.turns ≤ r.state.counts.turns
    → SurveySays r.state.job r.phase (tree_in told) fault.Turns
unfolding Surveys SaysRightly
says_no_turn told r (count, it) most = record {
  rightly = (λ s e. tt, λ t e. absurd (cc), λ s t e f. absurd (cc));
  no_dest = refl;
  turns = λ is s e. let less = is_left it (going r.phase it.stands) s e in omega (arith, most, less);
  ended = λ is. absurd (cc);
}

-- nor is one where all was seen
pub says_ended : (told : Option Reading) (r : Running) (here : Phase) → here ≡ r.phase → Surveys told r → (here ≡ phase.Ended) ⊎ (here ≡ phase.End)
    → SurveySays r.state.job r.phase (tree_in told) fault.Ended
unfolding Surveys SaysRightly
says_ended told r here same (count, it) (inl ended) = absurd (going r.phase it.stands (sym same ∙ ended))
says_ended told r here same (count, it) (inr end) = record {
  rightly = (λ s e. tt, λ t e. absurd (cc), λ s t e f. absurd (cc));
  no_dest = refl;
  turns = λ is. absurd (cc);
  ended = λ is. sym same ∙ end;
}

-- what a turn says is said at whatever phase
pub says_step : {T : Type 0} (answer : Result T Fault) (why : Fault) (job : own.Job) (at : Phase) (source : Option Forest) → answer ≡ Err why
    → ((here : Phase) → SurveySays job here source why) → IfErr answer (SurveySays job at source)
says_step {T} answer why job at source is says = subst (λ (r : Result T Fault). IfErr r (SurveySays job at source)) (sym is) (says at)

-- ---- by what a step makes of the answer

module _ (here next : Phase) (s s' : State) (told told' : Option Reading) (v : Option Writing) (l l' : Option (List ℕ)) (a c a' c' : ℕ) (at : Phase) where
  pub step_looks : (count : ℕ) → at ≡ passed next → is_looking here ≡ true
      → CountedTurn here s s' (states told (Some bare) l a 0 c) (states told' v l' a' 0 c') (Ok next) → IsUnmetAfter here s s'
      → IsSurvey told count (record { phase = here; state = s })
      → GoesOn (told, l) (told', l') count (record { phase = here; state = s }) (record { phase = at; state = s' })
  step_looks count is looking counted met it = subst (λ (p : Phase). GoesOn (told, l) (told', l') count (record { phase = here; state = s })
      (record { phase = p; state = s' })) (sym is) (looks here next s s' told told' v l l' a 0 c a' 0 c' count looking it counted met)

  pub step_well : at ≡ passed next → IsReady told here s → CountedTurn here s s' (states told (Some bare) l a 0 c) (states told' v l' a' 0 c') (Ok next)
      → TypeInvariant (record { phase = at; state = s' })
  step_well is ready counted = subst (λ (p : Phase). TypeInvariant (record { phase = p; state = s' })) (sym is)
      (well_ok here next s s' told told' v l l' a 0 c a' 0 c' ready.under_way ready.well ready.within counted)

  pub step_leaves : at ≡ passed next → IsReady told here s → CountedTurn here s s' (states told (Some bare) l a 0 c) (states told' v l' a' 0 c') (Ok next)
      → Leaves (states told (Some bare) l a 0 c) (states told' (Some bare) l' a' 0 c') s.job (Ok at)
  step_leaves is ready counted = subst (λ (p : Phase). Leaves (states told (Some bare) l a 0 c) (states told' (Some bare) l' a' 0 c') s.job (Ok p)) (sym is)
      (leaves_ok here next s s' told told' v l l' a c a' c' ready.under_way counted)

  pub step_passes : (count : ℕ) → at ≡ passed next → is_at_hand here ≡ true
      → CountedTurn here s s' (states told (Some bare) None a 0 0) (states told' v None a' 0 0) (Ok next)
      → IsUnmetAfter here s s' → IsSurvey told count (record { phase = here; state = s })
      → GoesOn (told, l) (told', l) count (record { phase = here; state = s }) (record { phase = at; state = s' })
  step_passes count is line counted met it = subst (λ (p : Phase). GoesOn (told, l) (told', l) count (record { phase = here; state = s })
      (record { phase = p; state = s' })) (sym is) (passes_there here next s s' told told' v l a 0 0 a' 0 0 count line it counted met)

  pub step_leaves_log : at ≡ passed next → IsReady told here s → CountedTurn here s s' (states told (Some bare) None a 0 0) (states told' v None a' 0 0)
      (Ok next) → Leaves (states told (Some bare) l a 0 c) (states told' (Some bare) l a' 0 c) s.job (Ok at)
  step_leaves_log is ready counted = subst (λ (p : Phase). Leaves (states told (Some bare) l a 0 c) (states told' (Some bare) l a' 0 c) s.job (Ok p)) (sym is)
      (leaves_passed here next s s' told told' v l c a a' ready.under_way counted)

module _ (here : Phase) (why : Fault) (s s' : State) (told told' : Option Reading) (v : Option Writing) (l l' : Option (List ℕ)) (a c a' c' : ℕ)
    (answer : Answer) where
  pub halt_well : answer ≡ Err why → IsReady told here s → CountedTurn here s s' (states told (Some bare) l a 0 c) (states told' v l' a' 0 c') (Err why)
      → TypeInvariant (record { phase = phase_after answer; state = s' })
  halt_well is ready counted = subst (λ (r : Answer). TypeInvariant (record { phase = phase_after r; state = s' })) (sym is)
      (well_err here why s s' told told' v l l' a 0 c a' 0 c' ready.under_way ready.well ready.within counted)

  pub halt_leaves : answer ≡ Err why → IsReady told here s → CountedTurn here s s' (states told (Some bare) l a 0 c) (states told' v l' a' 0 c') (Err why)
      → Leaves (states told (Some bare) l a 0 c) (states told' (Some bare) l' a' 0 c') s.job answer
  halt_leaves is ready counted = subst (λ (r : Answer). Leaves (states told (Some bare) l a 0 c) (states told' (Some bare) l' a' 0 c') s.job r) (sym is)
      (leaves_err here why s s' told told' v l l' a c a' c' ready.under_way counted)

  pub halt_leaves_log : answer ≡ Err why → IsReady told here s → CountedTurn here s s' (states told (Some bare) None a 0 0) (states told' v None a' 0 0)
      (Err why) → Leaves (states told (Some bare) l a 0 c) (states told' (Some bare) l a' 0 c) s.job answer
  halt_leaves_log is ready counted = subst (λ (r : Answer). Leaves (states told (Some bare) l a 0 c) (states told' (Some bare) l a' 0 c) s.job r) (sym is)
      (leaves_halted here why s s' told told' v l c a a' ready.under_way counted)

pub ruleset steps = (
  may_look,
  stands_so,
  fed_so,
  looking_is,
  new_survey,
  says_no_turn,
  says_ended,
  says_step,
  grows_none,
  step_looks,
  step_well,
  step_leaves,
  step_passes,
  step_leaves_log,
  halt_well,
  halt_leaves,
  halt_leaves_log,
)
