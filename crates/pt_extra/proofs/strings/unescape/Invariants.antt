use Rattle.std.proofs.Common.{◌≡◌, ◌-◌, ◌≤◌, drop, length, take}
use Rattle.std.specs.Str.{IsCharBoundary, IsUtf8}
use Rattle.json.specs.Text.{content, plain, prepend}
use Rattle.pt_extra.proofs.strings.unescape.Given as goal

abbrev pub invariant-parts : goal.invariant-parts
invariant-parts l =
    (content plain (drop l.start l.initial.bytes) ≡ prepend (take l.len l.bytes) (content plain (drop l.at l.initial.bytes)))
    × IsUtf8 (take l.len l.bytes)
    × IsCharBoundary l.initial.bytes l.at
    × (l.len ≤ l.at)
    × (length l.bytes ≡ length l.initial.bytes)
    × (drop l.at l.bytes ≡ drop l.at l.initial.bytes)

abbrev pub decreases-parts : goal.decreases-parts
decreases-parts l = length l.bytes - l.at
