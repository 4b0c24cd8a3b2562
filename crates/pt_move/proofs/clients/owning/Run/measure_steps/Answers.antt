use Rattle.std.proofs.Common.{refl}
use Rattle.pt_move.proofs.Holding.{goes_on, most_after}
use Rattle.pt_move.proofs.clients.owning.Run.measure_steps.Goals as goal

pub returns-then-eq : goal.returns-then-eq
returns-then-eq g c start s is =
    let before = c.loop.invariant.held start s is in
    most_after start s c.args.self.now.mover.state.job _ _ _ _ c.in-Ok.turn _ _ _ _ _ before.0 (c.in-Ok.ensures.step.keeps start before.0.begun)
    before.1.records_within c.records.ensures c.max.ensures c.report.ensures.counts refl

pub loop-preserved : goal.loop-preserved
loop-preserved g c = record {
  begun = c.in-Ok.ensures.step.goes_on;
  held =
      λ start s is.
      let before = c.loop.invariant.held start s is in
      let keeps = c.in-Ok.ensures.step.keeps start before.0.begun in (
        goes_on start s _ _ _ _ _ c.in-Ok.turn before.0 keeps c.in-Ok.ensures.step.steps.leaves,
        most_after start s c.args.self.now.mover.state.job _ _ _ _ c.in-Ok.turn _ _ _ _ _ before.0 keeps before.1.records_within c.records.ensures c.max.ensures
            c.report.ensures.counts refl,
      );
}
