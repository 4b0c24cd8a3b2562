use Rattle.std.proofs.Common.{arith}
use Rattle.pt_name.proofs.Identified.{one_name}
use Rattle.pt_name.proofs.identifying.is_extensions.Goals as goal

pub returns-then-len-eq1 : goal.returns-then-len-eq1
returns-then-len-eq1 c =
    let long = c.len.ensures in
    let one = c.if-len-eq1.true in
    one_name c.args.path.now c.in-Some.name.now _ c.as_slice.result.now c.bytes.result.now _ c.eq.ensures c.as_slice.ensures c.bytes.ensures.bytes
    c.in-Some.ensures (omega (arith, long, one))
