use Rattle.std.proofs.Common.{Some, drop, sym, subst, ap, ◌∙◌}
use Rattle.std.proofs.lemmas.Bool.{true≢false}
use Rattle.pt_extra.proofs.Placing.{stray_colon, stray_comma, yields_bad}
use Rattle.pt_extra.specs.Tokens.{Lexes, Yields, is_passed, tokens_at, tokens_from}
use Rattle.pt_extra.specs.declared.lexemes.Lexeme.TheVariants as Lexeme
use Rattle.pt_extra.proofs.Within.{bad_in}
use Rattle.pt_extra.specs.Tokens.{AreIn, token_in}
use Rattle.pt_extra.proofs.tokens.placed.Goals as goal

pub returns-in-None-clause-yields : goal.returns-in-None-clause-yields
returns-in-None-clause-yields c = λ ls h.
    let none = subst (λ x. Lexes ls x c.args.rest.now) c.in-None.is h in
    subst (λ x. Yields (tokens_from c.args.place x) c.end.result.token (tokens_at c.end.result.place c.end.result.rest.now)) (sym none.0)
    (c.end.ensures.yields none.1)

pub returns-in-Token-clause-yields : goal.returns-in-Token-clause-yields
returns-in-Token-clause-yields c = λ ls h.
    c.place_token.ensures.yields ls (subst (λ x. Lexes ls x c.args.rest.now) (c.in-Some.is ∙ ap Some c.in-Token.is) h)

pub returns-in-Comma-clause-yields : goal.returns-in-Comma-clause-yields
returns-in-Comma-clause-yields c = λ ls h.
    let is = c.in-Some.is ∙ ap Some c.in-Comma.is in
    let first = subst (λ x. Lexes ls x c.args.rest.now) is h in
    yields_bad _ _ _ _ c.bad.ensures.0 c.bad.ensures.1 (ap (tokens_from c.args.place) first.0 ∙ stray_comma c.args.place (drop 1 ls) c.requires.0
    (λ e. true≢false (sym (ap (λ p. is_passed p (Some Lexeme.Comma)) e) ∙ ap (is_passed c.args.place) (sym is) ∙ c.requires.1)))

pub returns-in-Colon-clause-yields : goal.returns-in-Colon-clause-yields
returns-in-Colon-clause-yields c = λ ls h.
    let first = subst (λ x. Lexes ls x c.args.rest.now) (c.in-Some.is ∙ ap Some c.in-Colon.is) h in
    yields_bad _ _ _ _ c.bad-in-Colon.ensures.0 c.bad-in-Colon.ensures.1
    (ap (tokens_from c.args.place) first.0 ∙ stray_colon c.args.place (drop 1 ls) c.requires.0)

pub returns-in-None-clause-within : goal.returns-in-None-clause-within
returns-in-None-clause-within c = λ text are. c.end.ensures.within text (tt, are.1)

pub returns-in-Token-clause-within : goal.returns-in-Token-clause-within
returns-in-Token-clause-within c = λ text are.
    c.place_token.ensures.within text (subst (λ x. AreIn text (token_in x) c.args.rest.now) (c.in-Some.is ∙ ap Some c.in-Token.is) are)

pub returns-in-Comma-clause-within : goal.returns-in-Comma-clause-within
returns-in-Comma-clause-within c = λ text are. bad_in text _ _ _ c.bad.ensures.0 c.bad.ensures.2 are.1

pub returns-in-Colon-clause-within : goal.returns-in-Colon-clause-within
returns-in-Colon-clause-within c = λ text are. bad_in text _ _ _ c.bad-in-Colon.ensures.0 c.bad-in-Colon.ensures.2 are.1
