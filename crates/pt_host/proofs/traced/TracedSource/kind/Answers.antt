use Rattle.pt_host.proofs.Standing.{stands_look}
use Rattle.pt_host.proofs.traced.TracedSource.kind.Goals as goal

pub returns-clause-keeps : goal.returns-clause-keeps
returns-clause-keeps g c =
    let own = c.kind.ensures in
    record { keeps = own.keeps; fails = stands_look _ _ _ _ c.args.path.now _ _ c.kind.result c.requires own.fails own.same own.failures }
