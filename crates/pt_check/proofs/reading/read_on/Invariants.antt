use Rattle.std.proofs.Common.{◌≡◌, ◌-◌}
use Rattle.pt_tree.specs.Failures.{greatest_count}
use Rattle.pt_check.proofs.Blocks.{ReadTo}
use Rattle.pt_check.proofs.Goes.{FailsStill}
use Rattle.pt_tree.specs.Source.{tree_in}
use Rattle.pt_check.proofs.reading.read_on.Given as goal

abbrev pub invariant-loop-total : goal.invariant-loop-total
invariant-loop-total g l = record {
  tree : tree_in (g.S.Source.told l.source) ≡ tree_in (g.S.Source.told l.fn.source);
  failed : g.S.Source.failed l.source ≡ g.S.Source.failed l.fn.source;
  keeps : g.S.Source.keeps l.fn.source l.source;
  still : FailsStill (g.S.Source.failing l.fn.source) (g.S.Source.failing l.source);
  read : ReadTo l.total (g.S.Source.told l.fn.source) (g.S.Source.told l.source);
}

abbrev pub decreases-loop-total : goal.decreases-loop-total
decreases-loop-total g l = greatest_count - l.total
