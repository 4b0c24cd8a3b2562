use Rattle.std.proofs.Common.{◌≡◌, take}
use Rattle.pt_tree.specs.Source.{IsSeen}
use Rattle.pt_tree.specs.Source.{tree_in}
use Rattle.pt_compare.proofs.root.find_kind.Given as goal

abbrev pub invariant-loop-name : goal.invariant-loop-name
invariant-loop-name g l = (l.way ≡ take l.name-index l.name-items) × (g.R.Source.told l.root ≡ g.R.Source.told l.fn.root)
    × (g.R.Source.failed l.root ≡ g.R.Source.failed l.fn.root) × IsSeen (tree_in (g.R.Source.told l.fn.root)) l.way l.here × g.R.Source.keeps l.fn.root l.root
