use Rattle.pt_tree.specs.Failing.{never_failing}
use Rattle.pt_memory.specs.MemSource.{source_state}
use Rattle.pt_memory.proofs.SourceCalls.{seen}
use Rattle.pt_memory.proofs.SourceFailing.{looks}
use Rattle.pt_memory.proofs.mem_source.MemSourceSource.kind.Goals as goal

pub returns-clause-kind : goal.returns-clause-kind
returns-clause-kind c =
    seen (source_state c.args.self.now) (source_state c.look_at.new.self) c.args.path.now c.look_at.result c.look_at.ensures

pub returns-clause-fails : goal.returns-clause-fails
returns-clause-fails c =
    looks never_failing (source_state c.args.self.now) (source_state c.look_at.new.self) c.args.path.now c.look_at.result c.look_at.ensures
