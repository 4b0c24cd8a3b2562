use Rattle.std.proofs.Common.{◌≡◌}
use Rattle.pt_compare.specs.Root.{Reads}
use Rattle.pt_tree.specs.Source.{tree_in}
use Rattle.pt_compare.proofs.Alike.{SoFar}
use Rattle.pt_compare.proofs.both_sides.are_alike.Given as goal

abbrev pub invariant-loop : goal.invariant-loop
invariant-loop g l = record {
  source_keeps : g.S.Source.keeps l.fn.source l.source;
  source_tree : tree_in (g.S.Source.told l.source) ≡ tree_in (g.S.Source.told l.fn.source);
  root_keeps : g.R.Source.keeps l.fn.root l.root;
  root_tree : tree_in (g.R.Source.told l.root) ≡ tree_in (g.R.Source.told l.fn.root);
  source_failed : g.S.Source.failed l.source ≡ g.S.Source.failed l.fn.source;
  root_failed : g.R.Source.failed l.root ≡ g.R.Source.failed l.fn.root;
  source_reads : Reads (g.S.Source.told l.source);
  root_reads : Reads (g.R.Source.told l.root);
  so_far : SoFar (g.S.Source.told l.fn.source) (g.R.Source.told l.fn.root) (g.S.Source.told l.source) (g.R.Source.told l.root);
}
