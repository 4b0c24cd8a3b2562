use Rattle.std.proofs.Common.{arith, ◌≡◌, ◌∙◌, length, take, ap, subst, Ok, Err}
use Rattle.pt_folder.specs.declared.failure.FailureReason.TheVariants as cause
use Rattle.pt_folder.proofs.Kept.{kept_names, kept_on, names_heard}
use Rattle.pt_folder.proofs.Names.{err_due, reads_one}
use Rattle.pt_folder.proofs.Taken.{all_given}
use Rattle.pt_folder.proofs.Turns.{names_end, names_fail, names_more, names_refused, names_spent}
use Rattle.pt_folder.proofs.taking.take_all.Goals as goal

pub loop-preserved : goal.loop-preserved
loop-preserved g c =
    let buffer = c.read_piece.new.buffer in
    let whole : length buffer ≡ 8192 = c.read_piece.auto.buffer ∙ c.loop.invariant.piece in
    let so_far = c.loop.invariant.taken in
    let more = c.in_ok-take_piece-in-Ok.ensures.taken so_far.0 so_far.1 in
    record {
      piece = whole;
      taken = (
        more.0,
        more.2,
        reads_one _ _ _ so_far.0 more.0 _ _ so_far.2 c.in-Ok.ensures.given.0 (ap (λ n. take n buffer) (omega arith)) more.1,
        names_more g.D.Input.reads g.T.Takes.refuses c.args.dir.now c.loop.dir c.read_piece.new.self so_far.0 buffer c.loop.counter so_far.3 whole c.in-Ok.count
            more.0 _ c.in-Ok.ensures.bound.0 c.in-Ok.count-test.1 c.in-Ok.ensures.read (ap (λ n. take n buffer) (omega arith)) more.1,
      );
    }

pub returns-in-Ok-eq0-clause-read : goal.returns-in-Ok-eq0-clause-read
returns-in-Ok-eq0-clause-read g c =
    let whole : length c.read_piece.new.buffer ≡ 8192 = c.read_piece.auto.buffer ∙ c.loop.invariant.piece in
    let none = subst (λ n. g.D.Input.reads c.loop.dir c.read_piece.new.buffer (Ok n) c.read_piece.new.self) c.in-Ok-eq0.field-0-test c.in-Ok-eq0.ensures.read in
    let so_far = c.loop.invariant.taken in
    record {
      all = so_far.0;
      read = names_end g.D.Input.reads g.T.Takes.refuses c.args.dir.now c.loop.dir c.read_piece.new.self so_far.0 c.read_piece.new.buffer c.loop.counter
          so_far.3 whole none;
      given = all_given (g.D.Input.left c.args.dir.now) (g.D.Input.left c.loop.dir) (g.D.Input.left c.read_piece.new.self) so_far.0 c.read_piece.new.buffer _
          so_far.2 c.in-Ok-eq0.ensures.given c.in-Ok-eq0.field-0-test whole;
      had = so_far.1;
    }

pub returns-in_err-take_piece-in-Ok-clause-fault : goal.returns-in_err-take_piece-in-Ok-clause-fault
returns-in_err-take_piece-in-Ok-clause-fault g c =
    let buffer = c.read_piece.new.buffer in
    let whole : length buffer ≡ 8192 = c.read_piece.auto.buffer ∙ c.loop.invariant.piece in
    let so_far = c.loop.invariant.taken in
    let fault = c.in_err-take_piece-in-Ok.field-0.0 in
    err_due c.from_residual.result fault _ c.from_residual.ensures.1
    (names_refused g.D.Input.reads g.T.Takes.refuses c.args.dir.now c.loop.dir c.read_piece.new.self so_far.0 buffer c.loop.counter so_far.3 whole c.in-Ok.count
    fault _ c.in-Ok.ensures.bound.0 c.in-Ok.count-test.1 c.in-Ok.ensures.read (ap (λ n. take n buffer) (omega arith))
    (c.in_err-take_piece-in-Ok.ensures.fault so_far.0 so_far.1))

pub returns-in-Err-clause-fault : goal.returns-in-Err-clause-fault
returns-in-Err-clause-fault g c =
    let whole : length c.read_piece.new.buffer ≡ 8192 = c.read_piece.auto.buffer ∙ c.loop.invariant.piece in
    let so_far = c.loop.invariant.taken in
    names_fail g.D.Input.reads g.T.Takes.refuses c.args.dir.now c.loop.dir c.read_piece.new.self so_far.0 c.read_piece.new.buffer c.loop.counter so_far.3 whole
    c.in-Err.error c.record_error_at_copy.result c.in-Err.ensures.read c.record_error_at_copy.ensures.fault

pub returns-clause-fault : goal.returns-clause-fault
returns-clause-fault g c =
    let so_far = c.loop.invariant.taken in
    names_spent g.D.Input.reads g.T.Takes.refuses c.args.dir.now c.loop.dir so_far.0 c.loop.counter so_far.3 (omega arith)

pub returns-in_err-take_piece-in-Ok-clause-kept : goal.returns-in_err-take_piece-in-Ok-clause-kept
returns-in_err-take_piece-in-Ok-clause-kept g c = kept_on c.from_residual.result c.in_err-take_piece-in-Ok.field-0.0 _ c.from_residual.ensures.1
    c.in_err-take_piece-in-Ok.ensures.kept

pub returns-in-Err-clause-kept : goal.returns-in-Err-clause-kept
returns-in-Err-clause-kept g c = names_heard {T = Unit {0}} (Err c.record_error_at_copy.result) c.record_error_at_copy.new.self.failure c.args.text.now
    (cause.System c.in-Err.error) c.record_error_at_copy.ensures.kept tt

pub returns-clause-kept : goal.returns-clause-kept
returns-clause-kept g c = kept_names c.keep_copy.new.self.failure c.args.text.now cause.Endless c.keep_copy.ensures tt
