use Rattle.pt_host.proofs.Standing.{stands_open}
use Rattle.pt_host.proofs.traced.TracedSource.open.Goals as goal

pub returns-clause-keeps : goal.returns-clause-keeps
returns-clause-keeps g c =
    let own = c.open.ensures in
    record { keeps = own.keeps; fails = stands_open _ _ _ _ c.args.path.now _ _ c.open.result c.requires own.fails own.opened own.same own.failures }
