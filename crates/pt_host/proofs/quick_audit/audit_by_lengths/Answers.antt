use Rattle.pt_host.proofs.AskedAudits.{audits_as}
use Rattle.pt_host.proofs.quick_audit.audit_by_lengths.Goals as goal

pub returns : goal.returns
returns g c = (
  c.audit_over-seen.result.0,
  audits_as _ _ _ _ _ _ c.with_short_files-options.ensures c.see-host_io.ensures c.audit_over-seen.ensures,
  c.within.ensures,
)
