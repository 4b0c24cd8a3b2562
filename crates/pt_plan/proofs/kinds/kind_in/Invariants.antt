use Rattle.std.proofs.Common.{◌≡◌, drop}
use Rattle.pt_plan.specs.TurnStart.{kind_in}
use Rattle.pt_plan.proofs.kinds.kind_in.Given as goal

abbrev pub invariant-loop-i : goal.invariant-loop-i
invariant-loop-i l = kind_in l.listing l.name ≡ kind_in (drop l.i l.listing) l.name
