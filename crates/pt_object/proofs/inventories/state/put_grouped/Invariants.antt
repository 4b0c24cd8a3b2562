use Rattle.std.proofs.Common.{◌≡◌, ◌++◌, drop, take}
use Rattle.pt_object.specs.Entries.{entries, grouped}
use Rattle.pt_object.proofs.inventories.state.put_grouped.Given as goal

abbrev pub invariant-loop-i : goal.invariant-loop-i
invariant-loop-i l =
    l.out ≡ l.fn.out ++ entries (grouped l.parts.rows.now) l.parts.items.now (take l.i (drop l.from l.parts.index.now))
