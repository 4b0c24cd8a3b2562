use Rattle.std.proofs.Common.{rules, ◌≡◌, ◌∙◌, Ok, ap, arith, length, subst, take}
use Rattle.pt_cli.proofs.IdentifierLines.{begins, breaks_off, piece_ends, piece_fails, piece_more, piece_none}
use Rattle.pt_cli.proofs.identifier_lines.read_identifiers.Goals as goal

pub loop-init : goal.loop-init
loop-init g c = record {
  whole = search rules;
  so_far = begins g.F.Input.reads c.args.file.now c.new-reader.result c.new-reader.ensures;
}

pub returns-in-Ok-eq0 : goal.returns-in-Ok-eq0
returns-in-Ok-eq0 g c =
    let block = c.read_piece.new.buffer in
    let whole : length block ≡ 8192 = c.read_piece.auto.buffer ∙ c.loop.invariant.whole in
    let none = subst (λ n. g.F.Input.reads c.loop.file block (Ok n) c.read_piece.new.self) c.in-Ok-eq0.field-0-test c.in-Ok-eq0.ensures.read in
    piece_none g.F.Input.reads c.args.file.now c.loop.file c.read_piece.new.self c.loop.reader block c.loop.invariant.so_far whole _ none c.finish.ensures

pub returns-in_err-take_piece-in-Ok : goal.returns-in_err-take_piece-in-Ok
returns-in_err-take_piece-in-Ok g c =
    let block = c.read_piece.new.buffer in
    let whole : length block ≡ 8192 = c.read_piece.auto.buffer ∙ c.loop.invariant.whole in
    piece_ends g.F.Input.reads c.args.file.now c.loop.file c.read_piece.new.self c.loop.reader block c.loop.invariant.so_far whole c.in-Ok.count
    c.in-Ok.ensures.bound.0 c.in-Ok.count-test.1 c.in-Ok.ensures.read
    c.take_piece.new.self _ (ap (λ n. take n block) (omega arith)) c.in_err-take_piece-in-Ok.field-0.0 c.from_residual.result c.in_err-take_piece-in-Ok.ensures
    c.from_residual.ensures.1

pub returns-in-Err : goal.returns-in-Err
returns-in-Err g c =
    let whole : length c.read_piece.new.buffer ≡ 8192 = c.read_piece.auto.buffer ∙ c.loop.invariant.whole in
    piece_fails g.F.Input.reads c.args.file.now c.loop.file c.read_piece.new.self c.loop.reader c.read_piece.new.buffer c.loop.invariant.so_far whole
    c.in-Err.error c.in-Err.ensures.read

pub loop-preserved : goal.loop-preserved
loop-preserved g c =
    let block = c.read_piece.new.buffer in
    let whole : length block ≡ 8192 = c.read_piece.auto.buffer ∙ c.loop.invariant.whole in
    record {
      whole = whole;
      so_far = piece_more g.F.Input.reads c.args.file.now c.loop.file c.read_piece.new.self c.loop.reader block c.loop.invariant.so_far whole c.in-Ok.count
          c.in-Ok.ensures.bound.0 c.in-Ok.count-test.1 c.in-Ok.ensures.read
          c.take_piece.new.self _ (ap (λ n. take n block) (omega arith)) c.in_ok-take_piece-in-Ok.ensures;
    }

pub returns : goal.returns
returns g c = breaks_off g.F.Input.reads c.args.file.now c.loop.file c.loop.file c.loop.reader c.loop.invariant.so_far
