use Rattle.pt_audit.proofs.AfterRun.{what_was_carried_is_the_same}
use Rattle.pt_audit.proofs.laws.what_was_carried_is_the_same.Goals as goal

pub returns : goal.returns
returns c = what_was_carried_is_the_same
