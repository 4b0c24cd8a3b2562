use Rattle.std.proofs.Common.{◌-◌}
use Rattle.pt_object.proofs.Halving.{IsHalved}
use Rattle.pt_object.proofs.table.index.search.Given as goal

abbrev pub invariant-halving : goal.invariant-halving
invariant-halving l = IsHalved l.items l.index l.digest l.low l.high l.comparisons

abbrev pub decreases-halving : goal.decreases-halving
decreases-halving l = l.high - l.low
