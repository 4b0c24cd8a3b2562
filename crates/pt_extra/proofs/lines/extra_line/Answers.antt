use Rattle.std.proofs.Common.{◌≡◌, ◌∙◌, ◌++◌, sym, ap, take, drop, List, ℕ, [], rules}
use Rattle.std.proofs.lemmas.Result.{IfOk-weaker}
use Rattle.std.specs.String.{string_bytes}
use Rattle.json.specs.Print.{escape}
use Rattle.pt_extra.proofs.AroundIdentifier.{around}
use Rattle.pt_extra.specs.Lines.{Extra, line_text}
use Rattle.pt_tree.specs.Path.{joined}
use Rattle.pt_extra.proofs.lines.extra_line.Goals as goal

pub returns : goal.returns
returns c =
    let id = string_bytes c.args.id in
    let to = c.args.to.now in
    let path : string_bytes c.in_ok-text_of.field-0 ≡ joined to = search rules in
    let is : c.as_bytes.result.now ≡ line_text (Extra [] to) = search rules in
    let front : c.split_at.result.0.now ≡ take 20 (line_text (Extra [] to)) = c.split_at.ensures.front ∙ ap (take 20) is in
    let back : c.split_at.result.1.now ≡ drop 20 (line_text (Extra [] to)) = c.split_at.ensures.back ∙ ap (drop 20) is in
    IfOk-weaker c.spell_between.result _ _ (λ line made.
    made
    ∙ ap (λ (l : List ℕ). l ++ (escape id ++ c.split_at.result.1.now)) front
    ∙ ap (λ (l : List ℕ). take 20 (line_text (Extra [] to)) ++ (escape id ++ l)) back
    ∙ sym (around id to)) c.spell_between.ensures
