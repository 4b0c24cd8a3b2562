use Rattle.std.proofs.Common.{take}
use Rattle.pt_check.specs.Lines.{Adds, class_members}
use Rattle.pt_check.proofs.lines.push_classes.Given as goal

abbrev pub invariant-loop-class : goal.invariant-loop-class
invariant-loop-class l = Adds (class_members l.breakdown 0 (take l.class l.counts)) l.initial.members.items l.members.items
