use Rattle.std.proofs.Common.{◌≡◌, length, take}
use Rattle.pt_walk.specs.Site.{non_shorties}
use Rattle.pt_walk.specs.NonShorties.{summary}
use Rattle.pt_walk.proofs.site.non_shorties_of.Given as goal

abbrev pub invariant-loop-i : goal.invariant-loop-i
invariant-loop-i l = (l.found ≡ summary (non_shorties (take l.i l.listing))) × (l.i-end ≡ length l.listing)
