use Rattle.std.proofs.Common.{◌≡◌, map, take}
use Rattle.pt_object.specs.Later.{group_lent}
use Rattle.pt_object.proofs.Grouped.{digests, no_part, part_with}
use Rattle.pt_object.proofs.inventories.state.group_rows.Given as goal

abbrev pub invariant-loop : goal.invariant-loop
invariant-loop l = map group_lent l.groups.items ≡ map no_part (take l.index l.items)

abbrev pub invariant-loop-row : goal.invariant-loop-row
invariant-loop-row l = map group_lent l.groups.items ≡ map (part_with (take l.row-index l.rows)) (digests l.contents)
