use Rattle.pt_tree.specs.Source.{CanRead}
use Rattle.pt_base_tests.proofs.memory_trees.read_file.Given as goal

abbrev pub invariant-loop-calls : goal.invariant-loop-calls
invariant-loop-calls g l = CanRead (g.S.Source.told l.source)
