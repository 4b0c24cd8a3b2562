use Rattle.std.proofs.Common.{rules}
use Rattle.pt_audit.proofs.auditing.tell_audit_end.Goals as goal

pub returns-clause-told : goal.returns-clause-told
returns-clause-told g c = search rules
