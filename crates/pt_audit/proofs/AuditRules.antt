-- What the functions of the crate are proved by.
use Rattle.pt_audit.proofs.Layouts.{layouts}
use Rattle.pt_audit.proofs.Pacing.{pacing}
use Rattle.pt_audit.proofs.Saying.{saying}
use Rattle.pt_audit.proofs.ToldSteps.{auditing}
use Rattle.pt_compare.proofs.Reading.{calls}

pub ruleset audit_rules = (auditing, saying, pacing, calls, layouts)
