use Rattle.pt_memory.specs.MemDest.{dest_state}
use Rattle.pt_memory.proofs.DestCalls.{kind_told}
use Rattle.pt_memory.proofs.mem_dest.MemDestDest.kind.Goals as goal

pub returns-clause-kind : goal.returns-clause-kind
returns-clause-kind c = kind_told (dest_state c.args.self.now).told c.args.path.now c.kind_in.result c.kind_in.ensures
