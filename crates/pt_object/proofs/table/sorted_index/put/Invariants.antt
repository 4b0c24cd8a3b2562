use Rattle.pt_object.proofs.Rowed.{IsPassed}
use Rattle.pt_object.proofs.table.sorted_index.put.Given as goal

abbrev pub invariant-loop-i : goal.invariant-loop-i
invariant-loop-i l = IsPassed l.fn.rows l.rows l.i l.at l.passed l.place l.position
