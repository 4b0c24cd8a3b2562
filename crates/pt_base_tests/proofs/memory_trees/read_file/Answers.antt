use Rattle.pt_tree.proofs.Held.{can_read-read}
use Rattle.pt_base_tests.proofs.memory_trees.read_file.Goals as goal

pub loop-calls-preserved : goal.loop-calls-preserved
loop-calls-preserved g c = can_read-read (g.S.Source.told c.loop-calls.source) (g.S.Source.told c.next.new.self) c.loop-calls.invariant
    c.in_ok-next.ensures.moved
