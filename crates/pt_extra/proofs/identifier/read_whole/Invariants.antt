use Rattle.std.proofs.Common.{◌≡◌, ◌-◌, ◌+◌, length}
use Rattle.pt_compare.specs.Root.{Reads}
use Rattle.pt_tree.specs.Source.{tree_in}
use Rattle.pt_compare.specs.Bytes.{CameNext}
use Rattle.pt_extra.specs.Inventories.{most_bytes}
use Rattle.pt_extra.proofs.identifier.read_whole.Given as goal

abbrev pub invariant-loop-block : goal.invariant-loop-block
invariant-loop-block g l = record {
  tree : tree_in (g.R.Source.told l.root) ≡ tree_in (g.R.Source.told l.fn.root);
  reads : Reads (g.R.Source.told l.root);
  came : CameNext l.bytes.items (g.R.Source.told l.fn.root) (g.R.Source.told l.root);
  keeps : g.R.Source.keeps l.fn.root l.root;
  failed : g.R.Source.failed l.root ≡ g.R.Source.failed l.fn.root;
}

abbrev pub decreases-loop-block : goal.decreases-loop-block
decreases-loop-block g l = most_bytes + 1 - length l.bytes.items
