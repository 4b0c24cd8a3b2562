use Rattle.std.proofs.Common.{◌∙◌, ap, cond, refl, sym}
use Rattle.std.proofs.Common.{Bool}
use Rattle.std.specs.Prelude.{Err, Ok}
use Rattle.pt_messages.specs.CountedPuts.{with_piece}
use Rattle.pt_messages.specs.CountedPutsLaws.{one_put, same_counts}
use Rattle.pt_messages.proofs.counted.CountedLogLog.put.Goals as goal

pub returns-in_err-put-clause-keeps : goal.returns-in_err-put-clause-keeps
returns-in_err-put-clause-keeps g c = (
  c.put.ensures.keeps,
  one_put g.L.Log.told g.L.Log.failed g.L.Log.keeps c.args.piece.now (Err c.in_err-put.field-0.0) c.args.self.now
      (record c.args.self.now { log = c.put.new.self })
      (record { ok = c.in_err-put.ensures.ok; part = c.in_err-put.ensures.part; failures = c.in_err-put.ensures.failures; stays = c.put.ensures.keeps })
      refl (same_counts c.args.self.now.counting c.args.self.now.counts),
)

pub returns-then-self-clause-keeps : goal.returns-then-self-clause-keeps
returns-then-self-clause-keeps g c = (
  c.put.ensures.keeps,
  one_put g.L.Log.told g.L.Log.failed g.L.Log.keeps c.args.piece.now (Ok tt) c.args.self.now
      (record c.args.self.now { log = c.put.new.self; counts = c.add_piece.new.self })
      (record { ok = c.in_ok-put.ensures.ok; part = c.in_ok-put.ensures.part; failures = c.in_ok-put.ensures.failures; stays = c.put.ensures.keeps })
      refl
      (c.add_piece.ensures
      ∙ sym (ap (λ (b : Bool). cond b (with_piece c.args.piece.now c.args.self.now.counts) c.args.self.now.counts) c.if-self.true)),
)

pub returns-else-self-clause-keeps : goal.returns-else-self-clause-keeps
returns-else-self-clause-keeps g c = (
  c.put.ensures.keeps,
  one_put g.L.Log.told g.L.Log.failed g.L.Log.keeps c.args.piece.now (Ok tt) c.args.self.now
      (record c.args.self.now { log = c.put.new.self })
      (record { ok = c.in_ok-put.ensures.ok; part = c.in_ok-put.ensures.part; failures = c.in_ok-put.ensures.failures; stays = c.put.ensures.keeps })
      refl (sym (ap (λ (b : Bool). cond b (with_piece c.args.piece.now c.args.self.now.counts) c.args.self.now.counts) c.if-self.false)),
)
