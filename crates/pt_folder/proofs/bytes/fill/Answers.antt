use Rattle.std.proofs.Common.{rules, arith, ◌≡◌, ◌∙◌, ◌-◌, length, subst, Ok, inl, refl, length-take, take}
use Rattle.pt_folder.proofs.Blocks.{read_more}
use Rattle.pt_folder.proofs.Turns.{reads_more, reads_none}
use Rattle.pt_folder.proofs.bytes.fill.Goals as goal

pub loop-done-preserved : goal.loop-done-preserved
loop-done-preserved g c =
    let whole : length c.read_piece.new.buffer ≡ length c.loop-done.buffer - c.loop-done.done = omega (arith, c.read_piece.auto.buffer) in
    record {
      within = search rules;
      taken = read_more _ _ _ c.loop-done.buffer c.read_piece.new.buffer c.loop-done.done _ c.in_ok-count.count c.loop-done.invariant.within
          c.in_ok-count.ensures.bound.0 c.loop-done.invariant.taken c.in_ok-count.ensures.given.0;
      same = c.read_piece.ensures.same ∙ c.loop-done.invariant.same;
      read = reads_more g.F.Input.reads (length c.args.buffer.now) c.args.file.now c.loop-done.file c.read_piece.new.self c.loop-done.buffer
          c.read_piece.new.buffer c.loop-done.done c.loop-done.auto.buffer c.loop-done.invariant.within whole c.loop-done.invariant.read c.in_ok-count.count
          c.in_ok-count.ensures.bound.0 c.if-count-eq0.false c.in_ok-count.ensures.read;
    }

pub returns-then-count-eq0-clause-reads : goal.returns-then-count-eq0-clause-reads
returns-then-count-eq0-clause-reads g c =
    let whole : length c.read_piece.new.buffer ≡ length c.loop-done.buffer - c.loop-done.done = omega (arith, c.read_piece.auto.buffer) in
    let none = subst (λ n. g.F.Input.reads c.loop-done.file c.read_piece.new.buffer (Ok n) c.read_piece.new.self) c.if-count-eq0.true c.in_ok-count.ensures.read
    in
    reads_none g.F.Input.reads (length c.args.buffer.now) c.args.file.now c.loop-done.file c.read_piece.new.self c.loop-done.buffer c.read_piece.new.buffer
    c.loop-done.done c.loop-done.auto.buffer c.loop-done.invariant.within whole c.loop-done.invariant.read none (omega arith)

pub returns-after-loop-done-clause-bytes : goal.returns-after-loop-done-clause-bytes
returns-after-loop-done-clause-bytes g c = record {
  within = c.loop-done.invariant.within;
  taken = c.loop-done.invariant.taken;
  full = λ short. absurd (omega arith);
}

pub returns-after-loop-done-clause-reads : goal.returns-after-loop-done-clause-reads
returns-after-loop-done-clause-reads g c =
    let read = c.loop-done.invariant.read in
    let full : length (take c.loop-done.done c.loop-done.buffer) ≡ length c.args.buffer.now = simp length-take (omega (arith, c.loop-done.auto.buffer)) in
    record {
      pieces = read.0;
      last = c.loop-done.file;
      read = read.1;
      ends = inl (full, refl);
    }
