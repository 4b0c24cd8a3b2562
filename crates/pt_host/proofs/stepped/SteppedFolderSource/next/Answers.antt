use Rattle.std.proofs.Common.{ap, ◌∙◌}
use Rattle.pt_host.specs.ReadSteps.{reads}
use Rattle.pt_host.proofs.Stepping.{both, reads_untold, stepped}
use Rattle.pt_host.proofs.stepped.SteppedFolderSource.next.Goals as goal

pub returns-clause-block : goal.returns-clause-block
returns-clause-block g c = both c.next.result _ _ c.next.ensures.block c.next.ensures.empty

pub returns-clause-fails : goal.returns-clause-fails
returns-clause-fails g c = reads_untold c.next.new.block.items c.next.result

pub returns-clause-keeps : goal.returns-clause-keeps
returns-clause-keeps g c =
    let own = c.next.ensures in
    let old = c.args.self.now.folder in
    let new = c.next.new.self in
    let fails = ap (λ s. g.S.System.failing s new.folder.path.now) own.call.system
    ∙ ap (λ f. g.S.System.failing old.syscalls.system f.path.now) own.call.folder in
    stepped old new (record { folder = own.call.folder; fails = fails }) (reads c.next.new.block.items c.next.result own.reads own.call)
