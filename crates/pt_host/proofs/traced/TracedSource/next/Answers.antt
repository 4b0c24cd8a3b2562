use Rattle.pt_host.proofs.Standing.{stands_next}
use Rattle.pt_host.proofs.traced.TracedSource.next.Goals as goal

pub returns-clause-keeps : goal.returns-clause-keeps
returns-clause-keeps g c =
    let own = c.next.ensures in
    record { keeps = own.keeps; fails = stands_next _ _ _ _ _ _ c.next.new.block.items c.next.result own.fails own.moved own.same own.failures }
