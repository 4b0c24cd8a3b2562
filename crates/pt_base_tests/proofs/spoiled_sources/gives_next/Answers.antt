use Rattle.pt_memory.specs.MemSourceTells.{source_told}
use Rattle.pt_tree.proofs.Held.{can_read-read}
use Rattle.pt_base_tests.proofs.spoiled_sources.gives_next.Goals as goal

pub returns-in-Ok : goal.returns-in-Ok
returns-in-Ok c = can_read-read (source_told c.args.source.now.source) (source_told c.next.new.self.source) c.requires c.in-Ok.ensures.moved
