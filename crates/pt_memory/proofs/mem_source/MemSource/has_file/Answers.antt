use Rattle.pt_memory.specs.MemSource.{source_state, reading_of}
use Rattle.pt_memory.proofs.Conditions.{can_open}
use Rattle.pt_memory.proofs.mem_source.MemSource.has_file.Goals as goal

pub returns : goal.returns
returns c = can_open (reading_of (source_state c.args.self.now)) c.args.path.now c.file.result _ c.is_some.ensures c.file.ensures
