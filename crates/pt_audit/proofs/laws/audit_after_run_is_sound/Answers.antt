use Rattle.pt_audit.proofs.AfterRun.{audit_after_run_is_sound}
use Rattle.pt_audit.proofs.laws.audit_after_run_is_sound.Goals as goal

pub returns : goal.returns
returns c = audit_after_run_is_sound
