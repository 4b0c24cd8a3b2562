use Rattle.std.specs.Prelude.{Ok}
use Rattle.std.proofs.Common.{take, drop, length, ◌-◌, arith, length-drop, length-take, inl, inr, subst}
use Rattle.pt_folder.specs.Runs.{on_pairs}
use Rattle.pt_folder.proofs.Turns.{writes_more, write_fails}
use Rattle.pt_folder.proofs.bytes.write_pieces.Goals as goal

pub loop-done-preserved : goal.loop-done-preserved
loop-done-preserved g c =
    let bound = simp (length-take, length-drop) at c.in-Ok.ensures.bound in
    record {
      within = omega arith;
      writes = writes_more (on_pairs g.S.System.writes) (c.args.system.now, c.args.file.now) (c.loop-done.system, c.loop-done.file)
          (c.write_piece.new.self, c.write_piece.new.file) c.args.bytes.now c.loop-done.done c.in-Ok.taken c.loop-done.invariant.writes c.in-Ok.taken-test.1
          c.in-Ok.ensures.written;
    }

pub returns-in-Ok-eq0-clause-error : goal.returns-in-Ok-eq0-clause-error
returns-in-Ok-eq0-clause-error g c =
    write_fails (on_pairs g.S.System.writes) (c.args.system.now, c.args.file.now) (c.loop-done.system, c.loop-done.file)
    (c.write_piece.new.self, c.write_piece.new.file) c.args.bytes.now c.loop-done.done c.from.result c.loop-done.invariant.writes c.loop-done-test.true
    (inr (
      subst (λ n. g.S.System.writes c.loop-done.system c.loop-done.file
          (take (length c.args.bytes.now - c.loop-done.done) (drop c.loop-done.done c.args.bytes.now)) (Ok n) c.write_piece.new.self c.write_piece.new.file)
          c.in-Ok-eq0.field-0-test c.in-Ok-eq0.ensures.written,
      c.from.ensures,
    ))

pub returns-in-Err-clause-error : goal.returns-in-Err-clause-error
returns-in-Err-clause-error g c =
    write_fails (on_pairs g.S.System.writes) (c.args.system.now, c.args.file.now) (c.loop-done.system, c.loop-done.file)
    (c.write_piece.new.self, c.write_piece.new.file) c.args.bytes.now c.loop-done.done c.in-Err.error c.loop-done.invariant.writes c.loop-done-test.true
    (inl c.in-Err.ensures.written)
