use Rattle.std.proofs.Common.{◌≡◌, codes, rules}
use Rattle.serde_json.specs.Data.{string, object, member, no_members}
use Rattle.serde_json.specs.View.{view}
use Rattle.serde_json.specs.declared.value.Value.{the_lemmas}
use Rattle.serde_json.proofs.OnLiterals.{serde_json_on_literals}
use Rattle.pt_object.specs.RootFiles.{extension_name}
use Rattle.pt_object.proofs.root.layout_file.Goals as goal

pub returns : goal.returns
unfolding serde_json_on_literals
returns c =
    let built : view c.in_ok-value.value ≡ object
    (member (codes "description") (string (codes "SHA-256 of the identifier in tuples, then the encoded identifier"))
    (member (codes "extension") (string extension_name) no_members)) =
    search (rules, the_lemmas) in
    search rules
