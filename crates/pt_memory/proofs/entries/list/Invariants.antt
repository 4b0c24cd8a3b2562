use Rattle.std.proofs.Common.{◌≡◌, ◌++◌, length}
use Rattle.pt_tree.specs.Forest.{listing_of}
use Rattle.pt_memory.specs.Entries.{forest_of}
use Rattle.pt_memory.proofs.entries.list.Given as goal

abbrev pub invariant-loop-name : goal.invariant-loop-name
invariant-loop-name l = l.listing ++ listing_of (forest_of l.rest) ≡ listing_of (forest_of l.entries)

abbrev pub decreases-loop-name : goal.decreases-loop-name
decreases-loop-name l = length (listing_of (forest_of l.rest))
