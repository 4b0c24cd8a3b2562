use Rattle.std.proofs.Common.{refl}
use Rattle.pt_tree.proofs.Told.{by_result}
use Rattle.pt_tree.specs.Failing.{never_failing}
use Rattle.pt_memory.specs.MemSource.{source_state}
use Rattle.pt_memory.proofs.SourceCalls.{read, moved}
use Rattle.pt_memory.proofs.SourceFailing.{reads}
use Rattle.pt_memory.proofs.mem_source.MemSourceSource.next.Goals as goal

pub returns-clause-block : goal.returns-clause-block
returns-clause-block c =
    by_result c.next_of.result _ _
    (read (source_state c.args.self.now) (source_state c.next_of.new.self) c.next_of.new.block.items c.next_of.result c.next_of.ensures.gives)
    c.next_of.ensures.empty

pub returns-clause-moved : goal.returns-clause-moved
returns-clause-moved c =
    moved (source_state c.args.self.now) (source_state c.next_of.new.self) c.next_of.new.block.items c.next_of.result c.next_of.ensures.gives

pub returns-clause-fails : goal.returns-clause-fails
returns-clause-fails c =
    reads never_failing (source_state c.args.self.now) (source_state c.next_of.new.self) c.next_of.new.block.items c.next_of.result refl c.requires
    c.next_of.ensures.gives
