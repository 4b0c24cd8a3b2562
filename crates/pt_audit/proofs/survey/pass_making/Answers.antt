use Rattle.std.proofs.Common.{rules}
use Rattle.pt_audit.proofs.survey.pass_making.Goals as goal

pub returns-in-Carrying-default-Make-Staging : goal.returns-in-Carrying-default-Make-Staging
returns-in-Carrying-default-Make-Staging c = search rules
