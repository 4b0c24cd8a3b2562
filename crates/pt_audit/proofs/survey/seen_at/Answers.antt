use Rattle.std.proofs.Common.{rules}
use Rattle.pt_audit.proofs.survey.seen_at.Goals as goal

pub returns-in-End : goal.returns-in-End
returns-in-End c = search rules
