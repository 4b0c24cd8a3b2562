use Rattle.std.proofs.Common.{◌≡◌, take}
use Rattle.pt_name.specs.Clean.{cleaned}
use Rattle.pt_name.proofs.cleaning.clean.Given as goal

-- the bytes so far are spelled
abbrev pub invariant-loop-byte : goal.invariant-loop-byte
invariant-loop-byte l = l.text.items ≡ cleaned (take l.byte-index l.id)
