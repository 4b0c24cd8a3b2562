use Rattle.std.proofs.Common.{◌≡◌, drop}
use Rattle.std.specs.Prelude.{None}
use Rattle.pt_compare.specs.Marks.{marks_of}
use Rattle.pt_compare.specs.Meeting.{NotedStand}
use Rattle.pt_tree.specs.Source.{tree_in}
use Rattle.pt_compare.proofs.Going.{GoesFrom}
use Rattle.pt_compare.proofs.OnWay.{items_from}
use Rattle.pt_compare.proofs.comparing.meet_contents.Given as goal

abbrev pub invariant-loop-i : goal.invariant-loop-i
invariant-loop-i g l = record {
  source_keeps : g.S.Source.keeps l.fn.source l.source;
  source_tree : tree_in (g.S.Source.told l.source) ≡ tree_in (g.S.Source.told l.fn.source);
  source_failed : g.S.Source.failed l.source ≡ g.S.Source.failed l.fn.source;
  root_keeps : g.R.Source.keeps l.fn.root l.root;
  root_tree : tree_in (g.R.Source.told l.root) ≡ tree_in (g.R.Source.told l.fn.root);
  root_failed : g.R.Source.failed l.root ≡ g.R.Source.failed l.fn.root;
  noted : NotedStand (tree_in (g.R.Source.told l.root)) l.object.to.now (marks_of l.entries);
  goes : GoesFrom (tree_in (g.S.Source.told l.fn.source)) (tree_in (g.R.Source.told l.fn.root)) l.object.to.now
      (items_from l.object.from.now l.last (drop l.i l.object.contents.now)) (marks_of l.entries) (items_from l.object.from.now None l.object.contents.now)
      (marks_of l.fn.entries);
}
