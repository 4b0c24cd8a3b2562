use Rattle.pt_folder.specs.HostSource.{IsSameFolder}
use Rattle.pt_host.specs.ReadSteps.{lists}
use Rattle.pt_host.proofs.Stepping.{lists_untold, stepped}
use Rattle.pt_host.proofs.stepped.SteppedFolderSource.list.Goals as goal

pub returns-clause-fails : goal.returns-clause-fails
returns-clause-fails g c = lists_untold c.args.path.now c.list.result

pub returns-clause-keeps : goal.returns-clause-keeps
returns-clause-keeps g c =
    let own = c.list.ensures in
    let same : IsSameFolder c.args.self.now.folder c.list.new.self = record { folder = own.call.folder; fails = own.call.fails } in
    stepped c.args.self.now.folder c.list.new.self same (lists c.args.path.now c.list.result own.listed own.fault own.call)
