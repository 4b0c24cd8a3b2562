use Rattle.std.proofs.Common.{◌≡◌, arith}
use Rattle.std.proofs.lemmas.Bool.Decides.{nat_tests}
use Rattle.pt_messages.proofs.FaultTexts.{starts_there}
use Rattle.pt_messages.specs.FaultLines.{text_start}
use Rattle.pt_messages.proofs.watch.Words.text_of.Goals as goal
use Rattle.pt_messages.proofs.watch.Words.text_of.Goals.{then-number-lt10, else-number-lt10}

pub range-requires-clause-start_boundary : goal.range-requires-clause-start_boundary
range-requires-clause-start_boundary c =
    let start : c.if-number-lt10.front ≡ text_start c.args.fault.now = elim c.if-number-lt10.branch [
      | then-number-lt10 w ↦ grind (arith, nat_tests)
      | else-number-lt10 w ↦ grind (arith, nat_tests)
    ] in λ _. rw (start, c.line_of-line.ensures) (starts_there c.args.self c.args.fault.now)
