use Rattle.pt_folder.specs.Calls.{change_of}
use Rattle.pt_host.specs.ReadSteps.{lists_past}
use Rattle.pt_host.proofs.Stepping.{stepped}
use Rattle.pt_host.proofs.stepped.SteppedFolderListsNamed.list_named.Goals as goal

pub returns-clause-keeps : goal.returns-clause-keeps
returns-clause-keeps g c =
    let own = c.list_named.ensures in
    stepped c.args.self.now.folder c.list_named.new.self (record { folder = own.call.folder; fails = own.call.fails })
    (lists_past c.args.path.now (change_of c.args.refused.now.items c.list_named.new.refused.items) c.list_named.result own.listed own.fault own.call)
