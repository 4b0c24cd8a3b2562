use Rattle.std.proofs.Common.{◌≡◌, ◌++◌, drop, take}
use Rattle.pt_object.specs.Entries.{entries, stored}
use Rattle.pt_object.proofs.inventories.manifest.put_stored.Given as goal

abbrev pub invariant-loop-i : goal.invariant-loop-i
invariant-loop-i l =
    l.out ≡ l.fn.out ++ entries stored l.parts.items.now (take l.i (drop l.from l.parts.index.now))
