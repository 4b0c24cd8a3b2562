-- What holds of each step of a survey.
use Rattle.std.proofs.Common.{◌≡◌, arith, ℕ, true, List, refl, sym, subst}
use Rattle.std.specs.Prelude.{◌<◌, Option, Ok}
use Rattle.std.proofs.lemmas.Bool.{true≢false}
use Rattle.pt_tree.specs.Dest.{Writing}
use Rattle.pt_tree.specs.Source.{Reading, tree_in}
use Rattle.pt_plan.specs.Job.{Job}
use Rattle.pt_plan.specs.Run.{Counts, Held, Kept}
use Rattle.pt_plan.specs.Turn.{Next, GoesOn as TurnGoesOn, Make, Place, Scan, Start, Turn, Walk}
use Rattle.pt_plan.specs.TurnStart as start
use Rattle.pt_plan.specs.DeviceStates.{Calls}
use Rattle.pt_plan.specs.declared.phase.Phase.{Phase}
use Rattle.pt_plan.specs.declared.phase.Opening.TheVariants as opening
use Rattle.pt_plan.specs.declared.phase.Phase.TheVariants as phase
use Rattle.pt_state.specs.Outside.{states}
use Rattle.pt_state.specs.States.{job_of}
use Rattle.pt_state.specs.declared.state.State.{State}
use Rattle.pt_state.proofs.Whole.{holds_nothing_else}
use Rattle.pt_move.specs.Running.{TypeInvariant}
use Rattle.pt_move.specs.Turning.{CountedTurn}
use Rattle.pt_move.proofs.Answering.{fed_going}
use Rattle.pt_audit.specs.Surveying.{IsReady, Steps, is_before_sites, is_before_store, Surveys, passed}
use Rattle.pt_audit.proofs.Working.{is_left}
use Rattle.pt_audit.proofs.StepLeaves.{bound_of_turn, leaves_of_turn, well_of_turn}
use Rattle.pt_audit.proofs.Stepping.{going, passed_well}

-- the store is seen before its sites
opens : {job : Job} {counts : Counts} (here : Phase) {next : Phase} {prefix read : List ℕ} {held after : Held} {calls : Calls} → is_before_store here ≡ true
    → Next job counts here prefix held read after calls (Ok next) → is_before_sites (passed next) ≡ true
opens (phase.Opening opening.Begin) is (Start (start.IsStore _ _)) = refl
opens (phase.Opening opening.Begin) is (Walk turn) = elim turn [ ]
opens (phase.Opening opening.Begin) is (Scan turn) = elim turn [ ]
opens (phase.Opening opening.Begin) is (Make turn) = elim turn [ ]
opens (phase.Opening opening.Begin) is (Place turn) = elim turn [ ]
opens (phase.Opening (opening.Prefix _)) is (Start (start.HasNoPrefix _)) = refl
opens (phase.Opening (opening.Prefix _)) is (Start (start.HasPrefix _ _ _)) = refl
opens (phase.Opening (opening.Prefix _)) is (Walk turn) = elim turn [ ]
opens (phase.Opening (opening.Prefix _)) is (Scan turn) = elim turn [ ]
opens (phase.Opening (opening.Prefix _)) is (Make turn) = elim turn [ ]
opens (phase.Opening (opening.Prefix _)) is (Place turn) = elim turn [ ]
opens _ is _ = absurd (true≢false (sym is))

module _ (here next : Phase) (s s' : State) (told told' : Option Reading) (w v : Option Writing) (l l' : Option (List ℕ)) (a b c a' b' c' : ℕ) where
  steps_there : Surveys told (record { phase = here; state = s }) → TypeInvariant (record { phase = here; state = s })
      → s.counts.turns < s.job.limits.turns
      → CountedTurn here s s' (states told w l a b c) (states told' v l' a' b' c') (Ok next)
      → Steps (tree_in told) (record { phase = here; state = s }) (record { phase = passed next; state = s' })
  unfolding Surveys CountedTurn
  steps_there (count, it) well more counted =
      let under_way : Surveys told (record { phase = here; state = s }) = (count, it) in
      let one = (leaves_of_turn here s s' told told' w v l l' a b c a' b' c' (Ok next) under_way counted).turns in
      record {
        job = counted.0;
        counted = one;
        within = omega (arith, more, one);
        work = λ f e. let less = is_left it (going here it.stands) f e in omega (arith, less, one);
        bound = bound_of_turn here s s' told told' w v l l' a b c a' b' c' (Ok next) under_way counted;
        numbers = (passed_well next (well_of_turn here s s' told told' w v l l' a b c a' b' c' (Ok next) under_way well more counted)).bounded;
        holds = holds_nothing_else s';
        order = by (counted.1 it.fed (fed_going s.job.algorithm s.hasher it.fed (going here it.stands) it.was)).1.1;
      }
    where
      by : {before after : Kept} → Turn (job_of s.job) here before after (states told w l a b c) (states told' v l' a' b' c') (Ok next)
          → is_before_store here ≡ true → is_before_sites (passed next) ≡ true
      by (TurnGoesOn calls _ follows did counts) is = opens here is follows

  pub step_steps : (at : Phase) → at ≡ passed next → IsReady told here s → CountedTurn here s s' (states told w l a b c) (states told' v l' a' b' c') (Ok next)
      → Steps (tree_in told) (record { phase = here; state = s }) (record { phase = at; state = s' })
  step_steps at is ready counted = subst (λ (p : Phase). Steps (tree_in told) (record { phase = here; state = s }) (record { phase = p; state = s' })) (sym is)
      (steps_there ready.under_way ready.well ready.within counted)
