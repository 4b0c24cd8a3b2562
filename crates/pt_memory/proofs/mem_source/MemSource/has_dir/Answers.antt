use Rattle.pt_memory.specs.MemSource.{source_state, reading_of}
use Rattle.pt_memory.proofs.Conditions.{can_list}
use Rattle.pt_memory.proofs.mem_source.MemSource.has_dir.Goals as goal

pub returns : goal.returns
returns c = can_list (reading_of (source_state c.args.self.now)) c.args.path.now _ c.dir_in.ensures
