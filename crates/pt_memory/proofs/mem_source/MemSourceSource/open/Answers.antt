use Rattle.std.proofs.Common.{refl}
use Rattle.pt_tree.specs.Failing.{never_failing}
use Rattle.pt_memory.specs.MemSource.{source_state}
use Rattle.pt_memory.proofs.SourceFailing.{opens}
use Rattle.pt_memory.proofs.mem_source.MemSourceSource.open.Goals as goal

pub returns-clause-fails : goal.returns-clause-fails
returns-clause-fails c =
    opens never_failing never_failing (source_state c.args.self.now) (source_state c.open_at.new.self) c.args.path.now c.open_at.result refl c.requires
    c.open_at.ensures
