use Rattle.std.proofs.Common.{◌∙◌}
use Rattle.pt_cli.proofs.Reading.{number_parsed}
use Rattle.pt_cli.proofs.share_words.number_in_text.Goals as goal

pub returns : goal.returns
returns c = c.ok.ensures.value ∙ number_parsed c.args.text.now c.parse.result c.parse.ensures.value.0
