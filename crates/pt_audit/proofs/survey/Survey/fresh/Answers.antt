use Rattle.std.proofs.Common.{rules}
use Rattle.pt_audit.proofs.survey.Survey.fresh.Goals as goal

pub returns : goal.returns
returns c = search rules
