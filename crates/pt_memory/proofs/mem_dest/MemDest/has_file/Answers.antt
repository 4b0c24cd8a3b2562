use Rattle.pt_memory.specs.MemDest.{dest_state}
use Rattle.pt_memory.proofs.Conditions.{can_peek}
use Rattle.pt_memory.proofs.mem_dest.MemDest.has_file.Goals as goal

pub returns : goal.returns
returns c = can_peek (dest_state c.args.self.now).told c.args.path.now c.file.result _ c.is_some.ensures c.file.ensures
