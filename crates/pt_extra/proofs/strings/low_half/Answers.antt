use Rattle.std.proofs.Common.{◌≡◌, ◌+◌, ◌-◌, drop, ap, sym, ◌∙◌, arith}
use Rattle.std.proofs.lemmas.Grind.{common_steps}
use Rattle.std.proofs.lemmas.List.{length-drop}
use Rattle.std.specs.Prelude.{is_some}
use Rattle.json.specs.Lex.{in_string, lex}
use Rattle.pt_extra.proofs.Lexing.{lex_backslash, lex_escape, lex_unit}
use Rattle.pt_extra.proofs.Contents.{content-after_high, short_after_high, len_utf8-le}
use Rattle.pt_extra.proofs.strings.low_half.Goals as goal

pub returns-then-text-at-lt6-clause-value : goal.returns-then-text-at-lt6-clause-value
returns-then-text-at-lt6-clause-value c =
    grind (
      arith,
      common_steps,
      content-after_high c.args.text.now c.args.at c.args.high,
      short_after_high c.args.high (drop c.args.at c.args.text.now),
      length-drop c.args.at c.args.text.now,
    )

pub returns-in_err-low-clause-value : goal.returns-in_err-low-clause-value
returns-in_err-low-clause-value c = grind (arith, common_steps, content-after_high c.args.text.now c.args.at c.args.high (omega arith))

pub returns-then-not-low-clause-value : goal.returns-then-not-low-clause-value
returns-then-not-low-clause-value c = grind (arith, common_steps, content-after_high c.args.text.now c.args.at c.args.high (omega arith))

pub returns-clause-value : goal.returns-clause-value
returns-clause-value c =
    let last : c.args.at + 6 - 1 ≡ c.args.at + 2 + 3 = omega arith in (
      grind (arith, content-after_high c.args.text.now c.args.at c.args.high (omega arith)),
      omega arith,
      omega arith,
      omega (arith, len_utf8-le c.in_ok-c.c),
      rw last c.in_ok-low.ensures.bounds.1,
    )

pub returns-clause-lexed : goal.returns-clause-lexed
returns-clause-lexed c =
    let d = c.args.text.now in
    let at = c.args.at in
    let two : at + 1 + 1 ≡ at + 2 = omega arith in
    let six : at + 2 + 4 ≡ at + 6 = omega arith in
    lex_backslash d at (omega arith) (grind arith) ∙ lex_escape d (at + 1) (omega arith) ∙ ap (λ n. lex in_string (drop n d)) two
    ∙ lex_unit d (at + 2) (omega arith) (ap is_some (sym c.in_ok-low.ensures.value)) ∙ ap (λ n. lex in_string (drop n d)) six
