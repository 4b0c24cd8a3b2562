use Rattle.std.proofs.Common.{◌≡◌, drop}
use Rattle.pt_scan.proofs.scanning.leave_object.Given as goal

abbrev pub invariant-loop : goal.invariant-loop
invariant-loop l = l.trail ≡ drop l.counter l.fn.trail
