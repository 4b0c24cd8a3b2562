use Rattle.pt_folder.specs.HostSource.{IsSameFolder}
use Rattle.pt_host.specs.ReadSteps.{looks}
use Rattle.pt_host.proofs.Stepping.{looks_untold, stepped}
use Rattle.pt_host.proofs.stepped.SteppedFolderSource.kind.Goals as goal

pub returns-clause-fails : goal.returns-clause-fails
returns-clause-fails g c = looks_untold c.args.path.now c.kind.result

pub returns-clause-keeps : goal.returns-clause-keeps
returns-clause-keeps g c =
    let own = c.kind.ensures in
    let same : IsSameFolder c.args.self.now.folder c.kind.new.self = record { folder = own.call.folder; fails = own.call.fails } in
    stepped c.args.self.now.folder c.kind.new.self same (looks c.args.path.now c.kind.result own.asked own.call)
