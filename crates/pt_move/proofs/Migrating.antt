-- What a whole run promises, from its steps.
use Rattle.std.proofs.Common.{◌≡◌, ◌≢◌, refl, subst, sym, ◌∙◌}
use Rattle.std.specs.Prelude.{IsErrAnd, Ok, Err, Result}
use Rattle.pt_invariant.specs.RunInvariant.{AreStates, start_of}
use Rattle.pt_state.proofs.Words.{DeviceStates, IsLayout, tree_in}
use Rattle.pt_state.proofs.Words.phase
use Rattle.pt_state.specs.declared.job.Report.{Report}
use Rattle.pt_state.specs.declared.job.Job.{Job}
use Rattle.pt_move.specs.Lines.{HasTold}
use Rattle.pt_move.specs.Migrates.{Migrates}
use Rattle.pt_move.specs.Outcome.{IfEarly, IfLog, LeavesAll, LeavesNoStaging, SaysRightly, WantsMemory}
use Rattle.pt_move.specs.Promises.{IfHalted, Keeps, TakesStep}
use Rattle.pt_move.proofs.Unmet.{unmet_in_the_end}
use Rattle.pt_move.specs.Runs.{Finished}
use Rattle.pt_move.specs.Unmet.{LeavesUnmet}
use Rattle.pt_move.specs.declared.migration.Completion.{Completion}
use Rattle.pt_move.specs.Running.{IsBegun, IsNew, TypeInvariant, Running}
use Rattle.pt_move.specs.Stepping.{Blamed, BlamesRightly, EndsAs, StepLeaves}
use Rattle.pt_plan.specs.declared.fault.Fault.{Fault}
use Rattle.pt_plan.specs.declared.fault.Fault.TheVariants as fault
use Rattle.pt_move.specs.declared.mover.Turn.{Turn}
use Rattle.pt_move.specs.declared.mover.Turn.TheVariants as turn
use Rattle.pt_move.proofs.Ending.{new_goes_on, not_ended}
use Rattle.pt_move.proofs.Staying.{holds_fields_alone, stays_bounded, stays_small}
use Rattle.pt_move.proofs.Ran.{RanSoFar, blames_err, blames_ok, is_whole_run, none_failed, ran_halted, ran_nothing, ran_on, ran_whole}
use Rattle.pt_move.proofs.WholeLog.{told_finished, told_front, told_more, told_none}

-- ---- between two steps

-- what holds of a run that goes on
pub record SoFar (job : Job) (first now : DeviceStates) (r : Running) : Type 0 where
  pub begun : IsBegun (start_of first) now r
  pub tree : tree_in now.source ≡ tree_in first.source
  pub failures : now.failures ≡ first.failures
  pub same : r.state.job ≡ job
  pub layout : IsLayout job.layout
  pub well : AreStates first
  pub going : r.phase ≢ phase.Ended
  pub told : HasTold first.log now.log r.state.counts
  pub ran : RanSoFar job first now r

pub new_so_far : (job : Job) (r : Running) (w : DeviceStates) → IsNew job r → IsLayout job.layout → AreStates w → IsBegun (start_of w) w r → SoFar job w w r
new_so_far job r w new layout well begun = record {
  begun = begun;
  tree = refl;
  failures = refl;
  same = new.job_is;
  layout = layout;
  well = well;
  going = new_goes_on job r new;
  told = told_none w.log r.state.counts new.counts;
  ran = ran_nothing job w r new;
}

-- a fault that isn't that of an ended run
if_halted : (P : Fault → Type 0) (f : Fault) → f ≢ fault.Ended → IfHalted (Err f) P → P f
if_halted P fault.Ended going p = absurd (going refl)
if_halted _ _ _ p = p

module _ (job : Job) (first old new : DeviceStates) (a b : Running) (so_far : SoFar job first old a) where
  -- it goes on
  pub so_far_on : (t : Turn) → t ≡ turn.More → TakesStep old new a b (Ok t) → SoFar job first new b
  unfolding Keeps StepLeaves
  so_far_on t is step = record {
    begun = (step.keeps (start_of first) so_far.begun).begun;
    tree = step.steps.leaves.tree ∙ so_far.tree;
    failures = none_failed old new t step.steps.blames ∙ so_far.failures;
    same = step.steps.leaves.job ∙ so_far.same;
    layout = so_far.layout;
    well = so_far.well;
    going = more.1;
    told = told_more _ _ _ _ _ so_far.told step.steps.leaves.told;
    ran = ran_on job first old new a b so_far.same so_far.going so_far.ran is step.steps.leaves step.steps.turn step.steps.unmet;
  }
    where
      more : EndsAs a b (Ok turn.More)
      more = rw is at step.steps.answer

  -- it comes to its end, by turns that leave this unmet
  pub finishes : (t : Turn) (report : Report) → t ≡ turn.Finished → report ≡ b.state.counts → TakesStep old new a b (Ok t)
      → Finished job first new report b.state.unmet
  finishes t report is counts step =
      ran_whole job first old new a b so_far.same so_far.going so_far.ran is counts step.steps.leaves step.steps.turn step.steps.unmet

  -- and leaves just what is met nowhere in the store
  pub leaves_unmet : (t : Turn) (completion : Completion) → t ≡ turn.Finished → completion.report ≡ b.state.counts → completion.unmet ≡ b.state.unmet
      → TakesStep old new a b (Ok t) → LeavesUnmet job first new completion
  leaves_unmet t completion is counts unmet step =
      let turns = subst (Finished job first new completion.report) (sym unmet) (finishes t completion.report is counts step) in
      record { turns = turns; store = unmet_in_the_end job first new completion.report completion.unmet so_far.layout so_far.well turns }

  pub migrates_whole : (t : Turn) (report : Report) → t ≡ turn.Finished → report ≡ b.state.counts → TypeInvariant b → TakesStep old new a b (Ok t)
      → Migrates job first new (Ok report)
  unfolding BlamesRightly Keeps StepLeaves
  migrates_whole t report is counts well step =
      let blames : Blamed {T = Report} first new (Ok report) = blames_ok first old new t report so_far.failures step.steps.blames in
      let kept : Keeps (start_of first) old new a b (Ok turn.Finished) = rw is at (step.keeps (start_of first) so_far.begun) in
      record {
        ends = rw counts (rw (so_far.same, so_far.tree) at kept.ends);
        states = rw (so_far.same, so_far.tree) at kept.states;
        left = rw (so_far.same, so_far.tree) at kept.left;
        early = tt;
        unstaged = tt;
        leaves = rw so_far.same at kept.leaves;
        stands = kept.stands;
        tree = step.steps.leaves.tree ∙ so_far.tree;
        says = tt;
        good = tt;
        source = blames.source;
        dest = blames.dest;
        log = blames.log;
        never_ended = tt;
        told = rw counts (told_finished t _ _ _ _ _ so_far.told step.steps.leaves.finished is);
        told_front = tt;
        run = is_whole_run job first old new a b so_far.same so_far.going so_far.ran (finishes t report is counts step);
        work = rw counts (rw (so_far.same, so_far.tree) at kept.work);
        turns = rw counts (rw (step.steps.leaves.job ∙ so_far.same) at well.bounded.turns);
        lines = rw counts well.bounded.lines;
        bound = stays_small job first so_far.layout so_far.well;
        numbers = stays_bounded job first;
        holds = holds_fields_alone;
      }

  halted : {f : Fault} → TakesStep old new a b (Err f) → Migrates job first new (Err f)
  unfolding BlamesRightly Keeps StepLeaves
  halted {f} step =
      let blames : Blamed {T = Report} first new (Err f) = blames_err first old new f so_far.failures step.steps.blames in
      let kept : Keeps (start_of first) old new a b (Err f) = step.keeps (start_of first) so_far.begun in
      let says = if_halted (SaysRightly a.state.job (tree_in old.source) (start_of first).dest) f going kept.says in
      let good = if_halted (WantsMemory a.state.job (tree_in old.source) (start_of first).dest old.failures new.failures) f going kept.good in
      record {
        ends = tt;
        states = tt;
        left = rw (so_far.same, so_far.tree) at kept.left;
        early = if_halted (λ f. IfEarly f (LeavesAll (start_of first) new.dest new.log)) f going kept.early;
        unstaged = if_halted (λ f. IfLog f (LeavesNoStaging new.dest)) f going kept.unstaged;
        leaves = rw so_far.same at kept.leaves;
        stands = kept.stands;
        tree = step.steps.leaves.tree ∙ so_far.tree;
        says = rw (so_far.same, so_far.tree) at says;
        good = rw (so_far.same, so_far.tree, so_far.failures) at good;
        source = blames.source;
        dest = blames.dest;
        log = blames.log;
        never_ended = going;
        told = tt;
        told_front = told_front _ _ _ _ _ so_far.told step.steps.leaves.told;
        run = ran_halted job first old new a b so_far.same so_far.going so_far.ran f step.steps.answer step.steps.turn;
        work = tt;
        turns = tt;
        lines = tt;
        bound = stays_small job first so_far.layout so_far.well;
        numbers = stays_bounded job first;
        holds = holds_fields_alone;
      }
    where
      going : f ≢ fault.Ended
      going = not_ended f a b so_far.going step.steps.answer

  -- or it is halted
  pub migrates_halted : (f : Fault) (result : Result Report Fault) → IsErrAnd result (λ g. g ≡ f) → TakesStep old new a b (Err f)
      → Migrates job first new result
  migrates_halted f (Ok report) is step = absurd is
  migrates_halted f (Err g) is step = rw is (halted step)
