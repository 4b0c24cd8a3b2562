use Rattle.std.proofs.Common.{◌++◌, codes, ap, ◌∙◌}
use Rattle.pt_object.proofs.files.sidecar_of.Goals as goal

pub returns : goal.returns
returns c = c.in_ok-push_str.ensures.bytes ∙ ap (λ text. text ++ codes " inventory.json\n") c.in_ok-line.ensures
