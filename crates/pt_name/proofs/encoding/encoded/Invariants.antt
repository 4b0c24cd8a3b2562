use Rattle.std.proofs.Common.{◌≡◌, take}
use Rattle.pt_name.specs.Place.{encoded_of}
use Rattle.pt_name.proofs.encoding.encoded.Given as goal

-- the bytes so far are spelled
abbrev pub invariant-loop-byte : goal.invariant-loop-byte
invariant-loop-byte l = l.text.items ≡ encoded_of (take l.byte-index l.id)
