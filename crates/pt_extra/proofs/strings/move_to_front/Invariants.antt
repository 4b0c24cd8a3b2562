use Rattle.std.proofs.Common.{◌≡◌, ◌+◌, ◌-◌, ◌≤◌, ◌++◌, drop, length, take}
use Rattle.pt_extra.proofs.strings.move_to_front.Given as goal

abbrev pub invariant-all : goal.invariant-all
invariant-all l =
    (take (l.to + l.done) l.bytes ≡ take l.to l.initial.bytes ++ take l.done (drop l.from l.initial.bytes))
    × (drop (l.from + l.done) l.bytes ≡ drop (l.from + l.done) l.initial.bytes)
    × (l.from + l.done ≤ l.until)
    × (length l.bytes ≡ length l.initial.bytes)

abbrev pub decreases-all : goal.decreases-all
decreases-all l = l.until - (l.from + l.done)
