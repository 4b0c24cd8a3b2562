use Rattle.pt_tree.specs.Dest.{CanWrite}
use Rattle.pt_base_tests.proofs.memory_trees.write_file.Given as goal

abbrev pub invariant-loop-piece : goal.invariant-loop-piece
invariant-loop-piece g l = CanWrite (g.D.Dest.told l.dest)
