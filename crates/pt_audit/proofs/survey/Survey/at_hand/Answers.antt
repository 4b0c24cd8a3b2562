use Rattle.std.proofs.Common.{rules}
use Rattle.pt_audit.proofs.survey.Survey.at_hand.Goals as goal

pub returns : goal.returns
returns c = search rules
