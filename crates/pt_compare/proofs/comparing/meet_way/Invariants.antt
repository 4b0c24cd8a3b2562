use Rattle.std.proofs.Common.{◌≡◌, drop}
use Rattle.pt_compare.specs.Marks.{marks_of}
use Rattle.pt_compare.specs.Meeting.{NotedStand}
use Rattle.pt_compare.specs.Parts.{fronts, way_items}
use Rattle.pt_tree.specs.Source.{tree_in}
use Rattle.pt_compare.proofs.Going.{GoesOn}
use Rattle.pt_compare.proofs.comparing.meet_way.Given as goal

abbrev pub invariant-loop-names : goal.invariant-loop-names
invariant-loop-names g l = record {
  keeps : g.R.Source.keeps l.fn.root l.root;
  tree : tree_in (g.R.Source.told l.root) ≡ tree_in (g.R.Source.told l.fn.root);
  failed : g.R.Source.failed l.root ≡ g.R.Source.failed l.fn.root;
  noted : NotedStand (tree_in (g.R.Source.told l.root)) l.place (marks_of l.entries);
  goes : GoesOn (tree_in (g.R.Source.told l.fn.root)) l.place (way_items l.way.last.now (drop l.names (fronts l.way.path.now))) (marks_of l.entries)
      (way_items l.way.last.now (fronts l.way.path.now)) (marks_of l.fn.entries);
}
