use Rattle.std.proofs.Common.{refl, arith}
use Rattle.std.proofs.lemmas.Grind.{common_steps}
use Rattle.pt_extra.proofs.Contents.{moved_one}
use Rattle.pt_extra.proofs.strings.move_to_front.Goals as goal

pub all-preserved : goal.all-preserved
all-preserved c =
    let l = c.all in
    let m = moved_one c.args.bytes.now l.bytes c.args.to c.args.from l.done _ l.invariant.0 l.invariant.1 (omega arith) (omega arith) l.invariant.3 refl in
    (m.0, m.1, omega arith, grind (arith, common_steps))
