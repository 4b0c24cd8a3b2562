use Rattle.std.proofs.Common.{◌∙◌, sym}
use Rattle.pt_memory.specs.MemSource.{source_state}
use Rattle.pt_memory.specs.SpoiledSource.{fails_at}
use Rattle.pt_memory.proofs.SourceFailing.{lists, refuses_list}
use Rattle.pt_memory.proofs.spoiled_source.SpoiledSourceSource.list.Goals as goal

pub returns-then-is_spoiled-clause-fails : goal.returns-then-is_spoiled-clause-fails
returns-then-is_spoiled-clause-fails c =
    refuses_list _ (fails_at c.args.self.now.spoiled.items c.args.self.now.is_open_spoiled) (source_state c.args.self.now.source)
    (source_state c.refuse.new.self) c.args.path.now c.refuse.result (sym c.is_spoiled.ensures ∙ c.if-is_spoiled.true) c.refuse.ensures.state
    c.refuse.ensures.answer

pub returns-clause-fails : goal.returns-clause-fails
returns-clause-fails c =
    lists (fails_at c.args.self.now.spoiled.items c.args.self.now.is_open_spoiled) (source_state c.args.self.now.source) (source_state c.list.new.self)
    c.args.path.now c.list.result (sym c.is_spoiled.ensures ∙ c.if-is_spoiled.false) c.requires c.list.ensures.gives
