use Rattle.std.proofs.Common.{◌≡◌, ◌++◌, drop}
use Rattle.pt_compare.specs.Root.{Stands}
use Rattle.pt_tree.specs.Source.{tree_in}
use Rattle.pt_tree.specs.declared.kind.Kind.TheVariants as kind
use Rattle.pt_compare.proofs.root.stand_above.Given as goal

abbrev pub invariant-loop-name : goal.invariant-loop-name
invariant-loop-name g l = (l.way ++ drop l.name-index l.rest ≡ l.fn.above) × (g.R.Source.told l.root ≡ g.R.Source.told l.fn.root)
    × (g.R.Source.failed l.root ≡ g.R.Source.failed l.fn.root) × Stands (tree_in (g.R.Source.told l.fn.root)) (l.way, kind.Dir)
    × g.R.Source.keeps l.fn.root l.root × Stands (tree_in (g.R.Source.told l.fn.root)) (l.folder, kind.Dir)
