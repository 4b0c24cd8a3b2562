use Rattle.std.proofs.Common.{◌≡◌, ◌++◌, take}
use Rattle.std.specs.Prelude.{reverse}
use Rattle.pt_walk.specs.Trail.{names_to}
use Rattle.pt_walk.proofs.trail.with_names.Given as goal

abbrev pub invariant-loop-frame : goal.invariant-loop-frame
invariant-loop-frame l = l.path ≡ l.fn.above ++ names_to (reverse (take l.frame-index l.frames))
