use Rattle.pt_memory.specs.MemSourceTells.{source_told}
use Rattle.pt_tree.specs.Source.{CanRead}
use Rattle.pt_base_tests.proofs.spoiled_sources.gives.Given as goal

abbrev pub invariant-loop-answer : goal.invariant-loop-answer
invariant-loop-answer l = CanRead (source_told l.source.source)
