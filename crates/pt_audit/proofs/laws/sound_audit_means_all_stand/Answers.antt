use Rattle.pt_audit.proofs.Sound.{sound_audit_means_all_stand}
use Rattle.pt_audit.proofs.laws.sound_audit_means_all_stand.Goals as goal

pub returns : goal.returns
returns c = sound_audit_means_all_stand
