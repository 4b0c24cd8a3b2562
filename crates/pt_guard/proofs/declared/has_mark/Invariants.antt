use Rattle.std.proofs.Common.{◌↔◌, length}
use Rattle.pt_guard.specs.Declaration.{HasPart, mark}
use Rattle.pt_guard.proofs.declared.has_mark.Given as goal

-- the mark stands in all where it does in what is left
abbrev pub invariant-loop-rest : goal.invariant-loop-rest
invariant-loop-rest l = HasPart mark l.bytes ↔ HasPart mark l.rest

abbrev pub decreases-loop-rest : goal.decreases-loop-rest
decreases-loop-rest l = length l.rest
