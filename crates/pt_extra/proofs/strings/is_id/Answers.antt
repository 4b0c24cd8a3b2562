use Rattle.std.proofs.Common.{◌<◌, ap, sym, ◌∙◌, drop, length, not, refl, arith}
use Rattle.std.proofs.lemmas.Bool.{eqb-true, false≢true}
use Rattle.json.specs.Text.{content, plain}
use Rattle.pt_extra.proofs.Letters.{closes_id, id_closes, must_close, nothing_there, quote_first}
use Rattle.pt_extra.proofs.Lexing.{begun_with}
use Rattle.pt_extra.proofs.strings.is_id.Goals as goal

pub returns-then-not-is_empty : goal.returns-then-not-is_empty
returns-then-not-is_empty c =
    let t = c.args.text.now in
    let a = c.in-Some.behind.now in
    let b = c.in-Some-after_letter.rest.now in
    let some : 0 < length b = grind arith in (
      λ q. closes_id t a b c.in-Some.ensures c.in-Some-after_letter.ensures
          (ap (content plain) (begun_with b 34 some (eqb-true _ _ q)) ∙ quote_first 34 (drop 1 b) refl),
      λ e. must_close b some (id_closes t a b c.in-Some.ensures c.in-Some-after_letter.ensures e),
    )

pub returns-else-not-is_empty : goal.returns-else-not-is_empty
returns-else-not-is_empty c =
    let t = c.args.text.now in
    let a = c.in-Some.behind.now in
    let b = c.in-Some-after_letter.rest.now in (
      λ q. absurd (false≢true (sym (ap not c.if-not-is_empty.false) ∙ q)),
      λ e. absurd (nothing_there b _ (grind arith) (id_closes t a b c.in-Some.ensures c.in-Some-after_letter.ensures e)),
    )
