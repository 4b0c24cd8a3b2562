use Rattle.std.proofs.Common.{◌≡◌, ◌∷◌, false, true, refl, subst, sym, ap, ◌∙◌, arith}
use Rattle.json.specs.Lex.{between, lex, token}
use Rattle.json.specs.Token.{key, string}
use Rattle.pt_extra.proofs.Placing.{colon_is, key_placed, no_colon, text_placed}
use Rattle.pt_extra.specs.Tokens.{Lexes, is_colon, text_of, tokens_from}
use Rattle.pt_extra.specs.declared.tokens.Place.TheVariants.{Fresh}
use Rattle.pt_extra.proofs.Within.{behind}
use Rattle.pt_extra.proofs.tokens.key_or_string.Goals as goal

pub returns-then-is_colon-clause-yields : goal.returns-then-is_colon-clause-yields
returns-then-is_colon-clause-yields c = λ place may ls h.
    let s = text_of c.args.text.now in
    let found = c.read_lexeme.result.0 in
    let is : is_colon found ≡ true = grind arith in
    let next = subst (λ n. Lexes (lex between c.args.rest.now) n c.read_lexeme.result.1.now) (colon_is found is) c.read_lexeme.ensures.lexes in
    ap (tokens_from place) (h.0 ∙ ap (λ x. token (string s) ∷ x) (sym (h.1 refl) ∙ next.0)) ∙ key_placed place s _ may
    ∙ ap (λ x. key s ∷ tokens_from Fresh x) (sym (next.1 refl))

pub returns-clause-yields : goal.returns-clause-yields
returns-clause-yields c = λ place may ls h.
    let s = text_of c.args.text.now in
    let found = c.read_lexeme.result.0 in
    let is : is_colon found ≡ false = grind arith in
    ap (tokens_from place) (h.0 ∙ ap (λ x. token (string s) ∷ x) (sym (h.1 refl)))
    ∙ text_placed place s (lex between c.args.rest.now) may
    (no_colon (lex between c.args.rest.now) found c.read_lexeme.result.1.now c.read_lexeme.ensures.lexes is)

pub returns-then-is_colon-clause-within : goal.returns-then-is_colon-clause-within
returns-then-is_colon-clause-within c = λ whole are. (tt, behind whole c.args.rest.now _ are.1 c.read_lexeme.ensures.within.1)

pub returns-clause-within : goal.returns-clause-within
returns-clause-within c = λ whole are. are
