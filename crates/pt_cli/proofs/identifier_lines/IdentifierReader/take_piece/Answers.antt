use Rattle.pt_cli.proofs.IdentifierLines.{all_bytes, byte_ends, byte_more}
use Rattle.pt_cli.proofs.identifier_lines.IdentifierReader.take_piece.Goals as goal

pub loop-byte-preserved : goal.loop-byte-preserved
loop-byte-preserved c =
    byte_more c.args.self.now c.loop-byte.self c.take_byte.new.self c.args.piece.now c.loop-byte.byte-index c.loop-byte-test.true c.loop-byte.invariant
    c.in_ok-take_byte.ensures

pub returns-in_err-take_byte : goal.returns-in_err-take_byte
returns-in_err-take_byte c =
    byte_ends c.args.self.now c.loop-byte.self c.take_byte.new.self c.args.piece.now c.loop-byte.byte-index c.loop-byte-test.true c.loop-byte.invariant
    c.in_err-take_byte.field-0.0 c.from_residual.result c.in_err-take_byte.ensures c.from_residual.ensures.1

pub returns : goal.returns
returns c = all_bytes c.args.self.now c.loop-byte.self c.args.piece.now c.loop-byte.byte-index c.loop-byte-test.false c.loop-byte.invariant
