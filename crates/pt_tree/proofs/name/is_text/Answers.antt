use Rattle.std.proofs.Common.{◌∙◌}
use Rattle.pt_tree.proofs.Texts.{is_ok-is_utf8}
use Rattle.pt_tree.proofs.name.is_text.Goals as goal

pub returns : goal.returns
returns c = c.is_ok.ensures.value ∙ is_ok-is_utf8 c.from_utf8.result c.args.bytes.now _ _ c.from_utf8.ensures.cases
