use Rattle.std.proofs.Common.{◌≡◌, ◌-◌, ap, sym, subst, ◌∙◌, drop, length, length-drop, take, take_all, arith}
use Rattle.std.specs.Prelude.{IfSome}
use Rattle.pt_extra.proofs.Within.{are_in_part, begins, behind, sliced}
use Rattle.pt_extra.specs.Tokens.{IsIn, Yields, tokens_at}
use Rattle.pt_extra.proofs.tokens.Reader.next.Goals as goal

pub returns-clause-tokens : goal.returns-clause-tokens
returns-clause-tokens c =
    let i = c.self.inside in
    let t = i.text.now in
    let part = take (length t - i.at) (drop i.at t) in
    let r = c.token_at-place.result in
    let seen : part ≡ drop i.at t = take_all (length t - i.at) (drop i.at t) (omega (arith, length-drop i.at t)) in
    let before : tokens_at i.place part ≡ c.args.self.now.tokens = ap (tokens_at i.place) seen ∙ ap (λ v. v.tokens) c.self.view_is in
    let after : drop (length t - length r.rest.now) t ≡ r.rest.now =
    begins t r.rest.now (behind t part r.rest.now (sliced t i.at) c.token_at-place.ensures.within.1) in
    subst (λ old. Yields old r.token (tokens_at r.place (drop (length t - length r.rest.now) t))) before
    (subst (λ rest. Yields (tokens_at i.place part) r.token (tokens_at r.place rest)) (sym after) c.token_at-place.ensures.yields)

pub returns-clause-within : goal.returns-clause-within
returns-clause-within c =
    let i = c.self.inside in
    let r = c.token_at-place.result in
    subst (λ v. IfSome r.token (IsIn v.text)) c.self.view_is
    (are_in_part i.text.now _ r.token r.rest.now (sliced i.text.now i.at) c.token_at-place.ensures.within).0
