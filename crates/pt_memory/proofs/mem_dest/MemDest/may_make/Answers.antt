use Rattle.pt_memory.specs.MemDest.{dest_state}
use Rattle.pt_memory.proofs.Conditions.{may_make}
use Rattle.pt_memory.proofs.mem_dest.MemDest.may_make.Goals as goal

pub returns : goal.returns
returns c = may_make (dest_state c.args.self.now).told c.args.path.now c.refusal.result _ c.is_none.ensures c.refusal.ensures
