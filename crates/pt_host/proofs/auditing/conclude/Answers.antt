use Rattle.std.proofs.Common.{ap, refl, ◌∙◌}
use Rattle.pt_host.proofs.CameSo.{came_so}
use Rattle.pt_host.proofs.auditing.conclude.Goals as goal

pub returns-clause-store : goal.returns-clause-store
returns-clause-store g c =
    c.into_system.ensures ∙ ap (λ s. s.syscalls.system) c.close-source.ensures.source
    ∙ ap (λ w. w.source.source.syscalls.system) c.into_source-store.ensures

pub returns-clause-folder : goal.returns-clause-folder
returns-clause-folder g c = c.into_system-2.ensures ∙ ap (λ s. s.syscalls.system) c.into_folder.ensures

pub returns-clause-output : goal.returns-clause-output
returns-clause-output g c = c.into_writer.ensures ∙ ap (λ l. l.writer) c.close-source.ensures.log

pub returns-clause-came : goal.returns-clause-came
returns-clause-came g c = came_so _ _ _ _ c.close-source.result.2 refl c.ended.ensures c.close-source.ensures.outcome
