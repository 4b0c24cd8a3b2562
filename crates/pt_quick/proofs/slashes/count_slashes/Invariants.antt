use Rattle.std.proofs.Common.{◌≡◌, take}
use Rattle.pt_quick.specs.Slashes.{slashes_in}
use Rattle.pt_quick.proofs.slashes.count_slashes.Given as goal

abbrev pub invariant-loop-byte : goal.invariant-loop-byte
invariant-loop-byte l = l.count ≡ slashes_in (take l.byte-index l.path)
