use Rattle.pt_folder.specs.HostSource.{IsSameFolder}
use Rattle.pt_host.specs.ReadSteps.{opens}
use Rattle.pt_host.proofs.Stepping.{opens_untold, stepped}
use Rattle.pt_host.proofs.stepped.SteppedFolderSource.open.Goals as goal

pub returns-clause-fails : goal.returns-clause-fails
returns-clause-fails g c = opens_untold c.args.path.now c.open.result

pub returns-clause-keeps : goal.returns-clause-keeps
returns-clause-keeps g c =
    let own = c.open.ensures in
    let same : IsSameFolder c.args.self.now.folder c.open.new.self = record { folder = own.call.folder; fails = own.call.fails } in
    stepped c.args.self.now.folder c.open.new.self same (opens c.args.path.now c.open.result own.asked own.call)
