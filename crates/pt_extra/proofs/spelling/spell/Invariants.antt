use Rattle.std.proofs.Common.{◌≡◌, ◌+◌, ◌≤◌, drop, length, take}
use Rattle.json.specs.Print.{escape as escaped}
use Rattle.pt_extra.proofs.spelling.spell.Given as goal

abbrev pub invariant-bytes : goal.invariant-bytes
invariant-bytes l =
    (l.left ≤ l.len)
    × (l.at ≡ l.from + length (escaped (take l.left l.initial.bytes)))
    × (drop l.at l.bytes ≡ escaped (drop l.left (take l.len l.initial.bytes)))
    × (take l.left l.bytes ≡ take l.left l.initial.bytes)
    × (length l.bytes ≡ length l.initial.bytes)

abbrev pub decreases-bytes : goal.decreases-bytes
decreases-bytes l = l.left
