use Rattle.std.specs.Prelude.{Some}
use Rattle.serde_json.specs.View.{view}
use Rattle.pt_messages.proofs.ExpectedEnd.{json_is, json_is_none}
use Rattle.pt_messages.proofs.expected.json_of.Goals as goal

pub returns-in_default : goal.returns-in_default
returns-in_default c = json_is_none c.args.bytes.now c.in_default.ensures.cases.0

pub returns-in-Ok-from_str : goal.returns-in-Ok-from_str
returns-in-Ok-from_str c =
    json_is c.args.bytes.now c.in-Ok.text.now (Some (view c.in-Ok-from_str.json)) c.in-Ok.ensures.cases.0 c.in-Ok.ensures.cases.1
    c.in-Ok-from_str.ensures.ok
