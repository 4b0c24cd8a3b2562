use Rattle.std.proofs.Common.{◌≡◌, length, refl, rules, subst, sym}
use Rattle.std.specs.Prelude.{Err}
use Rattle.std.proofs.Math.Seq.{take-length}
use Rattle.std.specs.Io.KnownBytes.{Appends}
use Rattle.pt_host.specs.Durable.{unwritten, written}
use Rattle.pt_host.proofs.LogPut.{after_error}
use Rattle.pt_host.proofs.durable_log.put_through.Goals as goal

pub returns-in_err-write_piece-clause-put : goal.returns-in_err-write_piece-clause-put
returns-in_err-write_piece-clause-put g c =
    let is : c.from_residual.result ≡ Err c.in_err-write_piece.field-0.0 = search rules in
    unwritten c.args.piece.now c.in_err-write_piece.field-0.0 c.in_err-write_piece.ensures.written (refl {a = c.args.file.now}) is

pub returns-clause-part : goal.returns-clause-part
returns-clause-part g c =
    let before = g.W.Write.contents c.args.writer.now in
    let after = g.W.Write.contents c.write_piece.new.self in
    let piece = c.args.piece.now in
    after_error c.sync_there.result
    (length piece, subst (λ bytes. Appends before after bytes) (sym (take-length piece)) c.in_ok-write_piece.ensures.ok)

pub returns-clause-put : goal.returns-clause-put
returns-clause-put g c = written c.args.piece.now c.in_ok-write_piece.ensures.written c.sync_there.ensures.asked
