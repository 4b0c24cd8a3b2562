use Rattle.std.proofs.Common.{◌∙◌}
use Rattle.pt_messages.proofs.Counting.{number_is}
use Rattle.pt_messages.proofs.line.number_of.Goals as goal

pub returns : goal.returns
returns c = c.ok.ensures.value ∙ number_is c.args.text.now c.parse.result c.parse.ensures.value.0
