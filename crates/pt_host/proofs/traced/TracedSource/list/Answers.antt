use Rattle.pt_host.proofs.Standing.{stands_list}
use Rattle.pt_host.proofs.traced.TracedSource.list.Goals as goal

pub returns-clause-keeps : goal.returns-clause-keeps
returns-clause-keeps g c =
    let own = c.list.ensures in
    record { keeps = own.keeps; fails = stands_list _ _ _ _ c.args.path.now _ _ c.list.result c.requires own.fails own.same own.failures }
