use Rattle.std.proofs.Common.{◌≡◌, rules, string_bytes}
use Rattle.std.proofs.lemmas.Result.{IfOk-weaker}
use Rattle.pt_tree.specs.Path.{joined}
use Rattle.pt_plan.proofs.lines.done_line.Goals as goal

pub returns : goal.returns
returns c =
    let told = c.args.object.now in
    let at : string_bytes c.in_ok-text_of.field-0 ≡ joined told.at = search rules in
    let id : c.as_str.result.now ≡ told.id.now = search rules in
    let to : string_bytes c.in_ok-text_of-2.field-0 ≡ joined told.to.now = search rules in
    IfOk-weaker c.line_with.result _ _ (λ s h. cc (at, id, to, h)) c.line_with.ensures
