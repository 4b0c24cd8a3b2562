use Rattle.std.proofs.Common.{take}
use Rattle.std.specs.Prelude.{All}
use Rattle.pt_tree.specs.Name.{AreNames}
use Rattle.pt_quick.proofs.claimed.tell_names.Given as goal

abbrev pub invariant-loop-row : goal.invariant-loop-row
invariant-loop-row l = All (λ row. AreNames row.path) (take l.row-index l.rows)
