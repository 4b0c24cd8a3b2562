use Rattle.std.proofs.Common.{◌≡◌, ◌∙◌, refl}
use Rattle.serde_json.proofs.OnLiterals.{serde_json_on_literals}
use Rattle.serde_json.specs.Written.{compact_text}
use Rattle.pt_object.specs.RootFiles.{config_text, config_tree}
use Rattle.pt_object.proofs.root.config_file.Goals as goal

pub returns : goal.returns
unfolding serde_json_on_literals
returns c =
    let text = rw c.in_ok-value.ensures at c.in_ok-to_string.ensures.text in
    let written : compact_text (config_tree c.args.size c.args.count) ≡ config_text (record { size = c.args.size; count = c.args.count }) = refl in
    text refl ∙ written
