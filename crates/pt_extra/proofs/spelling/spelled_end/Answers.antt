use Rattle.std.proofs.Common.{◌+◌, ◌≤◌, arith, get_or, length}
use Rattle.json.specs.Print.{escape_byte}
use Rattle.pt_extra.proofs.Spelled.{no_place}
use Rattle.pt_extra.proofs.spelling.spelled_end.Goals as goal

pub returns-in_err-end-clause-past : goal.returns-in_err-end-clause-past
returns-in_err-end-clause-past c =
    let l = c.loop-byte in
    let over : 18446744073709551616 ≤ l.end + length (escape_byte (get_or c.args.text.now l.byte-index 0)) =
    omega (arith, c.spelling-len.ensures.len, c.in_err-end.ensures) in
    no_place c.from_residual.result c.args.text.now l.byte-index l.end c.args.from 18446744073709551616 (omega arith) l.invariant over
