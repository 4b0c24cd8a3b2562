-- What a run holds after each of its turns, by induction over them.
use Rattle.std.proofs.Common.{◌≡◌, ◌≤◌, ◌<◌, ◌∙◌, ℕ, ◌+◌, List, ap, arith, false, refl}
use Rattle.std.specs.Prelude.{Option, Some, Ok}
use Rattle.pt_invariant.proofs.bounds.TurnBound.{turn_is_within_bound}
use Rattle.pt_invariant.proofs.bounds.WithinBound.{invariant_is_within_bound}
use Rattle.pt_invariant.proofs.ends.NewRun.{new_run_holds_invariant}
use Rattle.pt_invariant.proofs.ends.TurnKeeps.{turn_keeps_invariant}
use Rattle.pt_invariant.proofs.items.QuietTurns.{follows_runs}
use Rattle.pt_invariant.proofs.turns_left.EndsWithin.{turn_tree}
use Rattle.pt_invariant.specs.EndLaws.{is_ended}
use Rattle.pt_invariant.specs.RunInvariant.{AreStates, RunInvariant, start_of}
use Rattle.pt_invariant.specs.SourceInvariant.{IsWithinBound}
use Rattle.pt_move.proofs.Bounding.{counted_more, turn_keeps_bounds}
use Rattle.pt_move.proofs.Outcomes.{reading_of}
use Rattle.pt_move.specs.Bounds.{IsBounded}
use Rattle.pt_move.specs.Runs.{NoTurn, OneMore, Turns}
use Rattle.pt_move.specs.Staying.{Bounded, FieldsAlone, HoldsFieldsAlone, Small, StaysBounded, StaysSmall}
use Rattle.pt_plan.specs.Job as plan
use Rattle.pt_plan.specs.Run.{Kept, Run, new_run, turning}
use Rattle.pt_plan.specs.Turn.{GoesOn, Turn}
use Rattle.pt_plan.specs.declared.phase.Phase.{Phase}
use Rattle.pt_state.proofs.Whole.{holds_nothing_else}
use Rattle.pt_state.proofs.Words.{DeviceStates, Forest, IsLayout, job_of, tree_in}
use Rattle.pt_state.specs.declared.job.Job.{Job}

-- ---- by the source

-- a turn that goes on was made of a run that hadn't ended
turns_while_going : {job : plan.Job} {here : Phase} {before after : Kept} {old new : DeviceStates} {next : Phase} → Turn job here before after old new (Ok next)
    → is_ended here ≡ false
turns_while_going (GoesOn calls _ follows did counts) = follows_runs follows

module _ (job : plan.Job) (first : DeviceStates) (layout : IsLayout job.tuples) (well : AreStates first) where
  -- the invariant holds after each turn, and the source is what it was
  invariant_after : {count : ℕ} {run : Run} {now : DeviceStates} {unmet : List (Option (List ℕ))} → Turns job first count run now unmet
      → RunInvariant job (start_of first) now run × (tree_in now.source ≡ tree_in first.source)
  invariant_after NoTurn = (new_run_holds_invariant job first layout well, refl)
  invariant_after (OneMore n run old new unmet after next before turn) =
      let so_far = invariant_after before in (
        turn_keeps_invariant job (start_of first) old new run after next so_far.0 turn,
        turn_tree job run.phase (turning run.kept) after old new
            (Ok next) turn ∙ so_far.1,
      )

  small_after : (source : Forest) → tree_in first.source ≡ Some source → {count : ℕ} {run : Run} {now : DeviceStates} {unmet : List (Option (List ℕ))}
      → Turns job first count run now unmet
      → IsWithinBound job source run.kept.held
  small_after source told NoTurn =
      let reading = reading_of first.source told in
      rw reading.2 at
      (invariant_is_within_bound job (start_of first) first new_run reading.0 (new_run_holds_invariant job first layout well) refl reading.1)
  small_after source told (OneMore n run old new unmet after next before turn) =
      let so_far = invariant_after before in
      let reading = reading_of old.source (so_far.1 ∙ told) in
      rw reading.2 at
      (turn_is_within_bound job (start_of first) old new run after (Ok next) reading.0 so_far.0 (turns_while_going turn) turn reading.1)

pub stays_small : (job : Job) (first : DeviceStates) → IsLayout job.layout → AreStates first → StaysSmall job first
stays_small job first layout well = Small (λ source told count run states unmet turns. small_after (job_of job) first layout well source told turns)

-- ---- by the limits

-- a turn that goes on is counted
counts_one : (kept : Kept) {job : plan.Job} {here : Phase} {after : Kept} {old new : DeviceStates} {next : Phase}
    → Turn job here (turning kept) after old new (Ok next) → after.counts.turns ≡ kept.counts.turns + 1
counts_one kept (GoesOn calls _ _ _ counts) = ap (λ c. c.turns) counts ∙ (counted_more calls.line (turning kept).counts).1

module _ (job : plan.Job) (first : DeviceStates) where
  bounded_after : {count : ℕ} {run : Run} {now : DeviceStates} {unmet : List (Option (List ℕ))} → Turns job first count run now unmet → count ≤ job.limits.turns
      → IsBounded job run.phase run.kept × (run.kept.counts.turns ≡ count)
  bounded_after NoTurn few = (
    record {
      lines = omega (arith);
      turns = omega (arith);
      few = record { rows = omega (arith); lengths = omega (arith) };
      within = refl;
      prefix = omega (arith);
    },
    refl,
  )
  bounded_after (OneMore n run old new unmet after next before turn) few =
      let so_far = bounded_after before (omega (arith, few)) in
      let made = so_far.1 in
      (turn_keeps_bounds so_far.0 (omega (arith, few, made)) turn, counts_one run.kept turn ∙ ap (λ n. n + 1) made)

pub stays_bounded : (job : Job) (first : DeviceStates) → StaysBounded job first
stays_bounded job first = Bounded (λ count run states unmet turns few. (bounded_after (job_of job) first turns few).0)

-- ---- beside

pub holds_fields_alone : HoldsFieldsAlone
holds_fields_alone = FieldsAlone holds_nothing_else
