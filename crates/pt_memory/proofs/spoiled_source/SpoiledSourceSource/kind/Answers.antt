use Rattle.std.proofs.Common.{◌∙◌, sym}
use Rattle.pt_memory.specs.MemSource.{source_state}
use Rattle.pt_memory.specs.SpoiledSource.{fails_at}
use Rattle.pt_memory.proofs.SourceFailing.{looks, refuses_look}
use Rattle.pt_memory.proofs.spoiled_source.SpoiledSourceSource.kind.Goals as goal

pub returns-then-is_spoiled_above-clause-fails : goal.returns-then-is_spoiled_above-clause-fails
returns-then-is_spoiled_above-clause-fails c =
    refuses_look _ (fails_at c.args.self.now.spoiled.items c.args.self.now.is_open_spoiled) (source_state c.args.self.now.source)
    (source_state c.refuse.new.self) c.args.path.now c.refuse.result (sym c.is_spoiled_above.ensures ∙ c.if-is_spoiled_above.true) c.refuse.ensures.state
    c.refuse.ensures.answer

pub returns-clause-fails : goal.returns-clause-fails
returns-clause-fails c =
    looks (fails_at c.args.self.now.spoiled.items c.args.self.now.is_open_spoiled) (source_state c.args.self.now.source) (source_state c.kind.new.self)
    c.args.path.now c.kind.result c.kind.ensures.gives
