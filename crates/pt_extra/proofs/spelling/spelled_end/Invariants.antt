use Rattle.std.proofs.Common.{◌≡◌, ◌+◌, length, take}
use Rattle.json.specs.Print.{escape as escaped}
use Rattle.pt_extra.proofs.spelling.spelled_end.Given as goal

abbrev pub invariant-loop-byte : goal.invariant-loop-byte
invariant-loop-byte l = l.end ≡ l.from + length (escaped (take l.byte-index l.text))
