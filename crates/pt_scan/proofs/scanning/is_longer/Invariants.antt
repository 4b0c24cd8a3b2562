use Rattle.std.proofs.Common.{◌≡◌, ◌≤◌, ◌*◌, length, take}
use Rattle.pt_state.proofs.Words.{joined}
use Rattle.pt_scan.proofs.scanning.is_longer.Given as goal

abbrev pub invariant-loop-i : goal.invariant-loop-i
invariant-loop-i l = (l.bytes ≡ length (joined (take l.i l.names))) × (l.bytes ≤ 256 * l.i)
