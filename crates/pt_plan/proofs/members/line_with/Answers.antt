use Rattle.std.proofs.Common.{rules, string_bytes}
use Rattle.pt_plan.proofs.MemberTexts.{text_is}
use Rattle.pt_plan.proofs.members.line_with.Goals as goal

pub returns : goal.returns
returns c = text_is c.args.members.now (string_bytes c.in_ok-text.text) _ (search rules) c.in_ok-push_str.ensures.bytes
