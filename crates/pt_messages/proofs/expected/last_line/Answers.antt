use Rattle.std.proofs.Common.{arith}
use Rattle.pt_messages.proofs.ExpectedEnd.{last_line_is}
use Rattle.pt_messages.proofs.expected.last_line.Goals as goal
use Rattle.pt_messages.proofs.expected.last_line.Goals.{then-loop-begin-test+else-lines-begin-ne10, else-loop-begin-test}

pub returns : goal.returns
returns c =
    last_line_is c.args.bytes.now c.in_ok-last.lines.now c.in_ok-last.last.now c.loop-begin.begin c.in_ok-last.ensures.cases c.if-last-ne10.false
    c.loop-begin.invariant.0 c.loop-begin.invariant.1
    (λ some. elim c.loop-begin-test.branch [
      | then-loop-begin-test+else-lines-begin-ne10 w ↦ w.if-lines-begin-ne10.false
      | else-loop-begin-test w ↦ absurd (omega (arith, w.loop-begin-test.false, some))
    ])
