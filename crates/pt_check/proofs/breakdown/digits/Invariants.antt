use Rattle.std.proofs.Common.{◌≡◌, ◌≤◌, nat_lt, take}
use Rattle.std.specs.List.{count_by}
use Rattle.std.specs.Prelude.{not}
use Rattle.pt_check.proofs.breakdown.digits.Given as goal

abbrev pub invariant-loop-power : goal.invariant-loop-power
invariant-loop-power l = record {
  counted : l.count ≡ count_by (λ power. not (nat_lt l.length power)) (take l.power-index l.powers);
  few : l.count ≤ l.power-index;
}
