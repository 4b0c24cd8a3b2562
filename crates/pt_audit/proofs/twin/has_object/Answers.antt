use Rattle.std.proofs.Common.{rules}
use Rattle.pt_audit.proofs.twin.has_object.Goals as goal

pub returns-in_default : goal.returns-in_default
returns-in_default c = search rules

pub returns-in-Candidate : goal.returns-in-Candidate
returns-in-Candidate c = search rules
