use Rattle.std.proofs.Common.{◌≡◌, ◌≤◌, ◌*◌, take}
use Rattle.std.specs.Prelude.{reverse}
use Rattle.pt_walk.specs.Trail.{entries_held}
use Rattle.pt_walk.proofs.trail.Trail.records.Given as goal

abbrev pub invariant-loop-frame : goal.invariant-loop-frame
invariant-loop-frame l =
    (l.total ≡ entries_held (reverse (take l.frame-index l.frame-items))) × (l.total ≤ 18446744073709551615 * l.frame-index)
