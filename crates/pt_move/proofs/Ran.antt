-- What the steps of a run over the devices as one say of the whole.
use Rattle.std.proofs.Common.{◌≡◌, ◌≢◌, ◌<◌, ◌-◌, ◌+◌, arith, List, [], ℕ, refl, ap, ◌∙◌, subst, sym}
use Rattle.std.specs.Prelude.{Option, Ok, Err}
use Rattle.std.specs.String.{string_bytes}
use Rattle.pt_plan.specs.Met.{unmet_after}
use Rattle.pt_state.specs.States.{IsUnmetAfter}
use Rattle.pt_state.proofs.Words.{HasBeenFed, new_run, Fault, Phase, DeviceStates, job_of, kept_of, Run, turning, Turn}
use Rattle.pt_state.proofs.Words.phase
use Rattle.pt_state.specs.declared.job.Report.{Report}
use Rattle.pt_move.specs.Running.{FedUntilEnd, IsNew, Running, run_of}
use Rattle.pt_move.specs.Runs.{AtLimit, Finished, Halted, IsRun, NoTurn, OneMore, Turns}
use Rattle.pt_move.specs.Stepping.{BlamesRightly, EndsAs, IsTurn, MakesTurn, StepLeaves}
use Rattle.pt_plan.specs.declared.fault.Fault.TheVariants as fault
use Rattle.pt_move.specs.declared.mover.Turn.{Turn as Motion}
use Rattle.pt_move.specs.declared.mover.Turn.TheVariants as motion
use Rattle.pt_move.proofs.Answering.{fed_going, fed_to_end}
use Rattle.pt_move.proofs.Going.{is_going}
use Rattle.pt_state.specs.declared.job.Job.{Job}
use Rattle.pt_move.specs.Turning.{CountedTurn}

-- where none failed before, the step's blame is the run's
pub none_failed : (old new : DeviceStates) (t : Motion) → BlamesRightly old new (Ok t) → new.failures ≡ old.failures
unfolding BlamesRightly
none_failed old new t blames = λ i. record { source = blames.source i; dest = blames.dest i; log = blames.log i }

pub blames_ok : (first old new : DeviceStates) (t : Motion) (report : Report) → old.failures ≡ first.failures → BlamesRightly old new (Ok t)
    → BlamesRightly first new (Ok report)
unfolding BlamesRightly
blames_ok first old new t report same blames = record { source = rw same at blames.source; dest = rw same at blames.dest; log = rw same at blames.log }

pub blames_err : (first old new : DeviceStates) (f : Fault) → old.failures ≡ first.failures → BlamesRightly {T = Motion} old new (Err f)
    → BlamesRightly {T = Report} first new (Err f)
unfolding BlamesRightly
blames_err first old new f same blames = record { source = rw same at blames.source; dest = rw same at blames.dest; log = rw same at blames.log }

-- a turn less is left to make
pub smaller : (old new : DeviceStates) (a b : Running) (t : Motion) → t ≡ motion.More → StepLeaves old new a b (Ok t) → EndsAs a b (Ok t)
    → b.state.job.limits.turns - b.state.counts.turns < a.state.job.limits.turns - a.state.counts.turns
unfolding StepLeaves
smaller old new a b t is left ends =
    let made : EndsAs a b (Ok motion.More) = rw is at ends in
    let within : a.state.counts.turns < a.state.job.limits.turns = made.0.within in
    let more : b.state.counts.turns ≡ a.state.counts.turns + 1 = left.turns.0 in
    let same : b.state.job.limits.turns ≡ a.state.job.limits.turns = ap (λ j. j.limits.turns) left.job in
    omega (arith, within, more, same)

-- ---- turns so far

-- so many turns were made as are counted
pub record RanSoFar (job : Job) (first now : DeviceStates) (r : Running) : Type 0 where
  pub fed : List ℕ
  pub was : FedUntilEnd r.phase r.state.job.algorithm r.state.hasher fed
  pub turns : Turns (job_of job) first r.state.counts.turns (run_of r fed) now r.state.unmet

-- none
pub ran_nothing : (job : Job) (w : DeviceStates) (r : Running) → IsNew job r → RanSoFar job w w r
ran_nothing job w r new = record {
  fed = [];
  was = fed_to_end r.phase r.state.job.algorithm r.state.hasher [] (rw new.job_is new.fed);
  turns = subst (λ (run : Run). Turns (job_of job) w r.state.counts.turns run w r.state.unmet) (sym run_is)
      (subst (λ (n : ℕ). Turns (job_of job) w n new_run w r.state.unmet) (sym (ap (λ (c : Report). c.turns) new.counts))
      (subst (λ (u : List (Option (List ℕ))). Turns (job_of job) w 0 new_run w u) (sym new.unmet) NoTurn));
}
  where
    run_is : run_of r [] ≡ new_run
    run_is = λ i. record { phase = new.phase i; kept = new.kept i }

-- the turn that a step made, where the hasher was fed what it was
module _ (job : Job) (first old new : DeviceStates) (a b : Running) (same : a.state.job ≡ job) (going : a.phase ≢ phase.Ended)
    (so_far : RanSoFar job first old a) where
  fed_now : HasBeenFed a.state.job.algorithm a.state.hasher so_far.fed
  fed_now = fed_going a.state.job.algorithm a.state.hasher so_far.fed going so_far.was

  -- and one more
  pub ran_one_more : {next : Phase} → CountedTurn a.phase a.state b.state old new (Ok next) → b.state.counts.turns ≡ a.state.counts.turns + 1
      → IsUnmetAfter a.phase a.state b.state → RanSoFar job first new (record { phase = next; state = b.state })
  unfolding CountedTurn
  ran_one_more {next} turned counted met =
      let made = turned.1 so_far.fed fed_now in
      record {
        fed = made.0;
        was = fed_to_end next b.state.job.algorithm b.state.hasher made.0 (subst (λ j. HasBeenFed j.algorithm b.state.hasher made.0) (sym turned.0) made.1.0);
        turns = subst (λ (n : ℕ). Turns (job_of job) first n (record { phase = next; kept = kept_of b.state made.0 }) new b.state.unmet) (sym counted)
            (subst (λ (u : List (Option (List ℕ))). Turns (job_of job) first (a.state.counts.turns + 1) (record { phase = next; kept = kept_of b.state made.0 })
            new u) (sym (met ∙ ap (λ j. unmet_after (job_of j) a.phase (string_bytes a.state.prefix) a.state.trail a.state.unmet) same))
            (OneMore a.state.counts.turns (run_of a so_far.fed) old new a.state.unmet (kept_of b.state made.0) next so_far.turns
            (subst (λ j. Turn (job_of j) a.phase (turning (kept_of a.state so_far.fed)) (kept_of b.state made.0) old new (Ok next)) same made.1.1)));
      }

  pub ran_on : {t : Motion} → t ≡ motion.More → StepLeaves old new a b (Ok t) → MakesTurn old new a b (Ok t) → IsUnmetAfter a.phase a.state b.state
      → RanSoFar job first new b
  unfolding StepLeaves MakesTurn
  ran_on {t} is left turned met = ran_one_more (subst (λ (t : Motion). MakesTurn old new a b (Ok t)) is turned) left.turns.0 met

  pub ran_whole : {t : Motion} {report : Report} → t ≡ motion.Finished → report ≡ b.state.counts → StepLeaves old new a b (Ok t) → MakesTurn old new a b (Ok t)
      → IsUnmetAfter a.phase a.state b.state → Finished job first new report b.state.unmet
  unfolding StepLeaves MakesTurn
  ran_whole {t} is counts left turned met =
      let ended = ran_one_more (subst (λ (t : Motion). MakesTurn old new a b (Ok t)) is turned) left.turns.0 met in
      subst (λ (c : Report). Finished job first new c b.state.unmet) (sym counts)
      (record { kept = kept_of b.state ended.fed; counts = refl; turns = ended.turns })

  pub is_whole_run : {report : Report} {unmet : List (Option (List ℕ))} → Finished job first new report unmet → IsRun job first new (Ok report)
  unfolding IsRun
  is_whole_run {unmet = unmet} finished = (unmet, finished)

  halted : {f : Fault} → IsTurn a → CountedTurn a.phase a.state b.state old new (Err f) → Halted job first new f
  unfolding CountedTurn
  halted {f} turn turned =
      let made = turned.1 so_far.fed fed_now in
      record {
        count = a.state.counts.turns;
        run = run_of a so_far.fed;
        states = old;
        unmet = a.state.unmet;
        after = kept_of b.state made.0;
        turns = so_far.turns;
        within = subst (λ (j : Job). a.state.counts.turns < j.limits.turns) same turn.within;
        turn = subst (λ j. Turn (job_of j) a.phase (turning (kept_of a.state so_far.fed)) (kept_of b.state made.0) old new (Err f)) same made.1.1;
      }

  at_limit : MakesTurn old new a b (Err fault.Turns) → AtLimit job first new
  unfolding MakesTurn
  at_limit (kept, still, made) = record {
    run = run_of a so_far.fed;
    unmet = a.state.unmet;
    going = is_going a.phase going;
    turns = subst (λ (w : DeviceStates). Turns (job_of job) first job.limits.turns (run_of a so_far.fed) w a.state.unmet) (sym still)
        (subst (λ (n : ℕ). Turns (job_of job) first n (run_of a so_far.fed) old a.state.unmet) (made ∙ ap (λ (j : Job). j.limits.turns) same) so_far.turns);
  }

  pub ran_halted : (f : Fault) → EndsAs a b (Err f) → MakesTurn old new a b (Err f) → IsRun job first new (Err f)
  unfolding MakesTurn IsRun
  ran_halted fault.Turns ends turned = at_limit turned
  ran_halted fault.Ended ends turned = going ends.0
  ran_halted f ends turned = halted ends.0 turned
