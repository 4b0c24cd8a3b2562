use Rattle.std.proofs.Common.{◌≡◌, length}
use Rattle.pt_compare.specs.Root.{Reads}
use Rattle.pt_tree.specs.Source.{tree_in}
use Rattle.pt_compare.proofs.Passed.{HasPassed}
use Rattle.pt_compare.proofs.bytes.come_next.Given as goal

abbrev pub invariant-loop-rest : goal.invariant-loop-rest
invariant-loop-rest g l = (tree_in (g.R.Source.told l.root) ≡ tree_in (g.R.Source.told l.fn.root)) × Reads (g.R.Source.told l.root)
    × HasPassed l.fn.bytes l.rest (g.R.Source.told l.fn.root) (g.R.Source.told l.root) × g.R.Source.keeps l.fn.root l.root
    × (g.R.Source.failed l.root ≡ g.R.Source.failed l.fn.root)

abbrev pub decreases-loop-rest : goal.decreases-loop-rest
decreases-loop-rest g l = length l.rest
