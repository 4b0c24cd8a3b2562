use Rattle.std.proofs.Common.{take}
use Rattle.pt_check.proofs.EndLine.{IsFront}
use Rattle.pt_check.proofs.lines.end_line.Given as goal

abbrev pub invariant-loop-part : goal.invariant-loop-part
invariant-loop-part l = IsFront l.numbers (take l.part-index l.parts) l.members.items
