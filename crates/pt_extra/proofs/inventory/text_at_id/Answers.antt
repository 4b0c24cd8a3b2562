use Rattle.std.proofs.Common.{◌∙◌, sym}
use Rattle.std.proofs.lemmas.Bool.{true≢false}
use Rattle.pt_extra.proofs.ReadTexts.{is_id, no_id, text_at, text_kept}
use Rattle.pt_extra.specs.Tokens.{text_of}
use Rattle.pt_extra.proofs.inventory.text_at_id.Goals as goal

pub returns-then-is_id-clause-text : goal.returns-then-is_id-clause-text
returns-then-is_id-clause-text c them it before now =
    now ∙ sym (text_at (text_of c.args.name.now) it them (is_id c.args.name.now (c.is_id.ensures.0 c.if-is_id.true)))

pub returns-else-is_id-clause-text : goal.returns-else-is_id-clause-text
returns-else-is_id-clause-text c them it before now =
    before ∙ sym (text_kept (text_of c.args.name.now) it them (no_id c.args.name.now (λ is. true≢false (sym (c.is_id.ensures.1 is) ∙ c.if-is_id.false))))

pub returns-then-is_id-clause-within : goal.returns-then-is_id-clause-within
returns-then-is_id-clause-within c = λ whole before now. now

pub returns-else-is_id-clause-within : goal.returns-else-is_id-clause-within
returns-else-is_id-clause-within c = λ whole before now. before
