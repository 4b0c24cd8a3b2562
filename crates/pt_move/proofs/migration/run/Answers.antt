use Rattle.std.proofs.Common.{refl, rules}
use Rattle.pt_invariant.specs.RunInvariant.{AreStates}
use Rattle.pt_move.proofs.Answering.{has_begun}
use Rattle.pt_move.proofs.Migrating.{leaves_unmet, migrates_halted, migrates_whole, new_so_far, so_far_on}
use Rattle.pt_move.proofs.Ran.{smaller}
use Rattle.pt_move.proofs.migration.run.Goals as goal

-- before the first step nothing was done: Migrating.antt (`new_so_far`)
pub loop-mover-init : goal.loop-mover-init
loop-mover-init g c = (
  let well : AreStates (g.O.Io.states c.args.out.now) = record { source = g.met.O.Io.proper c.args.out.now; dest = g.met.O.Io.is_tree c.args.out.now } in
      new_so_far _ c.start-mover.result _ c.start-mover.ensures.new c.start-mover.ensures.layout well (c.start-mover.ensures.in_progress _ well),
  (0, 0, g.met.O.Io.none c.args.out.now),
)

-- what a step needs, that the run has begun: Answering.antt (`has_begun`)
pub advance-requires : goal.advance-requires
advance-requires g c = has_begun _ _ _ c.loop-mover.invariant.0.begun

-- what holds of the run so far holds after a step: Migrating.antt (`so_far_on`); and so do the devices that it is over
pub loop-mover-preserved : goal.loop-mover-preserved
loop-mover-preserved g c = (
  so_far_on _ _ _ _ _ _ c.loop-mover.invariant.0 c.in-Ok-More.field-0 c.in-Ok-More.field-0-is c.in-Ok-More.ensures.step,
  (_, _, g.met.O.Io.more _ _ _ _ _ _ _ c.loop-mover.invariant.1.2 c.advance.ensures.calls),
)

-- the steps come to an end, for each leaves a turn less to make: Ran.antt (`smaller`)
pub loop-mover-smaller : goal.loop-mover-smaller
loop-mover-smaller g c = smaller _ _ _ _ c.in-Ok-More.field-0 c.in-Ok-More.field-0-is c.in-Ok-More.ensures.step.steps.leaves
    c.in-Ok-More.ensures.step.steps.answer

-- `run`, where the last turn was made and where a step met a fault: Migrating.antt (`migrates_whole`, `migrates_halted`)
pub returns-in-Ok-Finished-clause-run : goal.returns-in-Ok-Finished-clause-run
returns-in-Ok-Finished-clause-run g c = migrates_whole _ _ _ _ _ _ c.loop-mover.invariant.0 c.in-Ok-Finished.field-0 _ c.in-Ok-Finished.field-0-is
    c.into_completion.ensures.report c.into_completion.ensures.well c.in-Ok-Finished.ensures.step

pub returns-in-Err-clause-run : goal.returns-in-Err-clause-run
returns-in-Err-clause-run g c = migrates_halted _ _ _ _ _ _ c.loop-mover.invariant.0 c.in-Err.fault _ refl c.in-Err.ensures.step

-- `unmet`, where the last turn was made: Migrating.antt (`leaves_unmet`)
pub returns-in-Ok-Finished-clause-unmet : goal.returns-in-Ok-Finished-clause-unmet
returns-in-Ok-Finished-clause-unmet g c = leaves_unmet _ _ _ _ _ _ c.loop-mover.invariant.0 c.in-Ok-Finished.field-0 _ c.in-Ok-Finished.field-0-is
    c.into_completion.ensures.report c.into_completion.ensures.unmet c.in-Ok-Finished.ensures.step

-- `same`: the devices allow the calls of one step more
pub returns-in-Ok-Finished-clause-same : goal.returns-in-Ok-Finished-clause-same
returns-in-Ok-Finished-clause-same g c = (_, _, g.met.O.Io.more _ _ _ _ _ _ _ c.loop-mover.invariant.1.2 c.advance.ensures.calls)

pub returns-in-Err-clause-same : goal.returns-in-Err-clause-same
returns-in-Err-clause-same g c = (_, _, g.met.O.Io.more _ _ _ _ _ _ _ c.loop-mover.invariant.1.2 c.advance.ensures.calls)
