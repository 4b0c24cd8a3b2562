use Rattle.std.proofs.Common.{◌≡◌, min, take}
use Rattle.pt_plan.specs.TurnPlace.{bytes_in_rows}
use Rattle.pt_tree.specs.Failures.{greatest_count}
use Rattle.pt_state.proofs.telling.bytes_in.Given as goal

abbrev pub invariant-loop-row : goal.invariant-loop-row
invariant-loop-row l = l.bytes ≡ min (bytes_in_rows (take l.row-index l.rows)) greatest_count
