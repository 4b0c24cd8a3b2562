use Rattle.std.proofs.Common.{take}
use Rattle.sha2.specs.Hashers.{Holds256}
use Rattle.pt_tree.specs.Path.{joined}
use Rattle.pt_name.proofs.division.way_head.Given as goal

-- the names so far
abbrev pub invariant-loop-i : goal.invariant-loop-i
invariant-loop-i l = Holds256 l.hasher (joined (take l.i l.names))
