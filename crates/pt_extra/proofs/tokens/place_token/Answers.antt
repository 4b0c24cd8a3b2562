use Rattle.std.proofs.Common.{◌≡◌, ◌∷◌, None, Some, drop, subst, sym, ap, ◌∙◌, arith}
use Rattle.pt_extra.proofs.Placing.{good, not_text, placed, refused, text_begins, yields_bad}
use Rattle.pt_extra.specs.declared.lexemes.Lexeme.TheVariants as Lexeme
use Rattle.pt_extra.specs.Tokens.{Lexes, place_behind, token_of, tokens_from}
use Rattle.pt_extra.proofs.Within.{bad_in}
use Rattle.pt_extra.specs.Tokens.{AreIn}
use Rattle.pt_extra.proofs.tokens.place_token.Goals as goal

pub returns-in_default-clause-yields : goal.returns-in_default-clause-yields
returns-in_default-clause-yields c = λ ls h.
    let none : place_behind c.args.place c.args.token ≡ None = grind arith in
    yields_bad _ _ _ _ c.bad.ensures.0 c.bad.ensures.1 (ap (tokens_from c.args.place) h.0 ∙ refused c.args.place c.args.token (drop 1 ls) c.requires none)

pub returns-in-String-clause-yields : goal.returns-in-String-clause-yields
returns-in-String-clause-yields c = λ ls h.
    let may = text_begins c.args.place c.in-String.text c.in-Some.next (grind arith) in
    c.key_or_string.ensures.yields c.args.place may ls (subst (λ t. Lexes ls (Some (Lexeme.Token t)) c.args.rest.now) c.in-String.is h)

pub returns-in_default-token-clause-yields : goal.returns-in_default-token-clause-yields
returns-in_default-token-clause-yields c = λ ls h.
    let t = c.args.token in
    let next = c.in-Some.next in
    let some : place_behind c.args.place t ≡ Some next = grind arith in
    ap (tokens_from c.args.place) h.0 ∙ placed c.args.place t (drop 1 ls) next some (not_text t c.in_default-token.not-String)
    ∙ ap (λ x. token_of t ∷ tokens_from next x) (sym (h.1 (good c.args.place t next some)))

pub returns-in_default-clause-within : goal.returns-in_default-clause-within
returns-in_default-clause-within c = λ text are. bad_in text _ _ _ c.bad.ensures.0 c.bad.ensures.2 are.1

pub returns-in-String-clause-within : goal.returns-in-String-clause-within
returns-in-String-clause-within c = λ text are.
    c.key_or_string.ensures.within text (subst (λ t. AreIn text (Some t) c.args.rest.now) c.in-String.is are)

pub returns-in_default-token-clause-within : goal.returns-in_default-token-clause-within
returns-in_default-token-clause-within c = λ text are. are
