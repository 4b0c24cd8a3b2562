use Rattle.pt_memory.specs.MemSource.{source_state}
use Rattle.pt_memory.specs.SpoiledSource.{fails_at}
use Rattle.pt_memory.proofs.SourceFailing.{reads, refuses_next}
use Rattle.pt_memory.proofs.spoiled_source.SpoiledSourceSource.next.Goals as goal

pub returns-then-self-clause-fails : goal.returns-then-self-clause-fails
returns-then-self-clause-fails c =
    refuses_next _ (fails_at c.args.self.now.spoiled.items c.args.self.now.is_open_spoiled) (source_state c.args.self.now.source)
    (source_state c.refuse.new.self) c.clear.new.self.items c.refuse.result c.if-self.true c.refuse.ensures.state c.refuse.ensures.answer

pub returns-clause-fails : goal.returns-clause-fails
returns-clause-fails c =
    reads (fails_at c.args.self.now.spoiled.items c.args.self.now.is_open_spoiled) (source_state c.args.self.now.source) (source_state c.next.new.self)
    c.next.new.block.items c.next.result c.if-self.false c.requires c.next.ensures.gives
