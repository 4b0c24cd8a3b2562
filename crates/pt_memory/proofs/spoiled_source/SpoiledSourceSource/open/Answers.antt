use Rattle.std.proofs.Common.{Ok, ap}
use Rattle.pt_memory.specs.MemSource.{source_state}
use Rattle.pt_memory.specs.SpoiledSource.{fails_at}
use Rattle.pt_memory.proofs.SourceFailing.{opens, opens_not}
use Rattle.pt_memory.proofs.spoiled_source.SpoiledSourceSource.open.Goals as goal

pub returns-clause-fails : goal.returns-clause-fails
returns-clause-fails c =
    let spoiled = c.args.self.now.spoiled.items in
    opens (fails_at spoiled c.args.self.now.is_open_spoiled) (fails_at spoiled c.is_spoiled-is_spoiled.result) (source_state c.args.self.now.source)
    (source_state c.open.new.self) c.args.path.now (Ok tt) (ap (fails_at spoiled) c.is_spoiled-is_spoiled.ensures) c.requires c.in_ok-open.ensures.gives

pub returns-in_err-open-clause-fails : goal.returns-in_err-open-clause-fails
returns-in_err-open-clause-fails c =
    opens_not (fails_at c.args.self.now.spoiled.items c.args.self.now.is_open_spoiled) _ (source_state c.args.self.now.source) (source_state c.open.new.self)
    c.args.path.now c.in_err-open.field-0.0 c.from_residual.result c.requires c.in_err-open.ensures.gives
