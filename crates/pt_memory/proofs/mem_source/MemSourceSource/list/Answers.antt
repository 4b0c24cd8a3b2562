use Rattle.std.proofs.Common.{refl}
use Rattle.pt_tree.specs.Failing.{never_failing}
use Rattle.pt_memory.specs.MemSource.{source_state}
use Rattle.pt_memory.proofs.SourceCalls.{listed}
use Rattle.pt_memory.proofs.SourceFailing.{lists}
use Rattle.pt_memory.proofs.mem_source.MemSourceSource.list.Goals as goal

pub returns-clause-listing : goal.returns-clause-listing
returns-clause-listing c =
    listed (source_state c.args.self.now) (source_state c.list_at.new.self) c.args.path.now c.list_at.result c.list_at.ensures

pub returns-clause-fails : goal.returns-clause-fails
returns-clause-fails c =
    lists never_failing (source_state c.args.self.now) (source_state c.list_at.new.self) c.args.path.now c.list_at.result refl c.requires c.list_at.ensures
