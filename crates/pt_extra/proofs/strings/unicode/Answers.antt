use Rattle.std.proofs.Common.{◌≡◌, ◌+◌, ◌-◌, drop, ap, sym, arith}
use Rattle.std.proofs.lemmas.List.{length-drop}
use Rattle.std.specs.Prelude.{is_some}
use Rattle.pt_extra.proofs.Lexing.{lex_unit, lexed_on}
use Rattle.pt_extra.proofs.Contents.{content-after_u, short_after_u, len_utf8-le}
use Rattle.pt_extra.proofs.strings.unicode.Goals as goal

pub returns-then-text-at-lt4-clause-value : goal.returns-then-text-at-lt4-clause-value
returns-then-text-at-lt4-clause-value c = short_after_u (drop c.args.at c.args.text.now) (omega (arith, length-drop c.args.at c.args.text.now))

pub returns-in_err-unit-clause-value : goal.returns-in_err-unit-clause-value
returns-in_err-unit-clause-value c = grind (arith, content-after_u c.args.text.now c.args.at (omega arith))

pub returns-then-unit-clause-value : goal.returns-then-unit-clause-value
returns-then-unit-clause-value c = grind (arith, content-after_u c.args.text.now c.args.at (omega arith))

pub returns-then-unit-clause-lexed : goal.returns-then-unit-clause-lexed
returns-then-unit-clause-lexed c =
    lexed_on c.args.text.now c.low_half.result _ _
    (lex_unit c.args.text.now c.args.at (omega arith) (ap is_some (sym c.in_ok-unit.ensures.value))) c.low_half.ensures.lexed

pub returns-in_err-c-clause-value : goal.returns-in_err-c-clause-value
returns-in_err-c-clause-value c = grind (arith, content-after_u c.args.text.now c.args.at (omega arith))

pub returns-clause-value : goal.returns-clause-value
returns-clause-value c =
    let last : c.args.at + 4 - 1 ≡ c.args.at + 3 = omega arith in (
      grind (arith, content-after_u c.args.text.now c.args.at (omega arith)),
      omega arith,
      omega arith,
      omega (arith, len_utf8-le c.in_ok-c.c),
      rw last c.in_ok-unit.ensures.bounds.1,
    )

pub returns-clause-lexed : goal.returns-clause-lexed
returns-clause-lexed c = lex_unit c.args.text.now c.args.at (omega arith) (ap is_some (sym c.in_ok-unit.ensures.value))
