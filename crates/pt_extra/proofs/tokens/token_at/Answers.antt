use Rattle.std.proofs.Common.{◌≡◌, true, drop, refl, subst, sym, ap, ◌∙◌, arith}
use Rattle.json.specs.Lex.{between, lex}
use Rattle.pt_extra.proofs.Placing.{comma_passed, passed_is}
use Rattle.pt_extra.specs.Tokens.{Lexes, Yields, is_passed, tokens_at, tokens_from}
use Rattle.pt_extra.specs.declared.tokens.Place.TheVariants.{AfterComma, AfterValue}
use Rattle.pt_extra.proofs.Within.{are_in_part, no_longer, whole}
use Rattle.pt_extra.specs.Tokens.{token_in}
use Rattle.pt_extra.proofs.tokens.token_at.Goals as goal

pub returns-then-is_passed_by-clause-yields : goal.returns-then-is_passed_by-clause-yields
returns-then-is_passed_by-clause-yields c =
    let ls = lex between c.args.text.now in
    let first = c.read_lexeme in
    let r = c.placed.result in
    let is : is_passed c.args.place first.result.0 ≡ true = grind arith in
    let passed = passed_is c.args.place first.result.0 is in
    let next = subst (λ n. Lexes ls n first.result.1.now) passed.1 first.ensures.lexes in
    let same = ap (λ p. tokens_from p ls) passed.0 ∙ ap (tokens_from AfterValue) next.0 ∙ comma_passed (drop 1 ls)
    ∙ ap (tokens_from AfterComma) (sym (next.1 refl)) in
    subst (λ old. Yields old r.token (tokens_at r.place r.rest.now)) (sym same) (c.placed.ensures.yields _ c.read_lexeme-then-is_passed_by.ensures.lexes)

pub returns-clause-yields : goal.returns-clause-yields
returns-clause-yields c = c.placed-2.ensures.yields _ c.read_lexeme.ensures.lexes

pub returns-in-Failed-clause-within : goal.returns-in-Failed-clause-within
returns-in-Failed-clause-within c = (tt, whole c.args.text.now)

pub returns-then-is_passed_by-clause-within : goal.returns-then-is_passed_by-clause-within
returns-then-is_passed_by-clause-within c =
    let next = c.read_lexeme-then-is_passed_by in
    c.placed.ensures.within c.args.text.now
    (are_in_part c.args.text.now c.read_lexeme.result.1.now (token_in next.result.0) next.result.1.now c.read_lexeme.ensures.within.1 next.ensures.within)

pub returns-clause-within : goal.returns-clause-within
returns-clause-within c = c.placed-2.ensures.within c.args.text.now c.read_lexeme.ensures.within

pub returns-then-is_passed_by-clause-bound : goal.returns-then-is_passed_by-clause-bound
returns-then-is_passed_by-clause-bound c =
    let next = c.read_lexeme-then-is_passed_by in
    no_longer c.args.text.now _ (c.placed.ensures.within c.args.text.now
    (are_in_part c.args.text.now c.read_lexeme.result.1.now (token_in next.result.0) next.result.1.now c.read_lexeme.ensures.within.1 next.ensures.within)).1

pub returns-clause-bound : goal.returns-clause-bound
returns-clause-bound c = no_longer c.args.text.now _ (c.placed-2.ensures.within c.args.text.now c.read_lexeme.ensures.within).1
