use Rattle.std.proofs.Common.{Some}
use Rattle.pt_memory.specs.MemDest.{dest_state}
use Rattle.pt_memory.proofs.Calls.{passed}
use Rattle.pt_memory.proofs.DestCalls.{may_move, passes}
use Rattle.pt_memory.proofs.mem_dest.MemDestDest.rename.Goals as goal

pub rename-requires-clause-may : goal.rename-requires-clause-may
rename-requires-clause-may c = may_move (dest_state c.args.self.now).told c.args.from.now c.args.to.now c.requires

pub returns-clause-gives : goal.returns-clause-gives
returns-clause-gives c =
    let old = dest_state c.args.self.now in
    passes _ old _ _ _ (passed old.fuse c.in_ok-pass.ensures.answer)
    (λ i. record { told = record { tree = c.in_ok-rename.ensures.ok i; writing = c.close_within.ensures i }; fuse = c.in_ok-pass.ensures.state i })

pub returns-clause-moved : goal.returns-clause-moved
returns-clause-moved c = λ i. Some (record { tree = c.in_ok-rename.ensures.ok i; writing = c.close_within.ensures i })
