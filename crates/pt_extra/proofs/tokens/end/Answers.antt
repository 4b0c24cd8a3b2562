use Rattle.std.proofs.Common.{◌≡◌, false, true, ap, ◌∙◌, arith}
use Rattle.pt_extra.proofs.Placing.{ended, not_ended, yields_bad}
use Rattle.pt_extra.specs.Tokens.{closes_at, tokens_from}
use Rattle.pt_extra.proofs.Within.{bad_in}
use Rattle.pt_extra.proofs.tokens.end.Goals as goal

pub returns-then-not-may_close-clause-yields : goal.returns-then-not-may_close-clause-yields
returns-then-not-may_close-clause-yields c = λ none.
    let closed : closes_at c.args.place ≡ false = grind arith in
    yields_bad _ _ _ _ c.bad.ensures.0 c.bad.ensures.1 (not_ended c.args.place c.requires closed)

pub returns-clause-yields : goal.returns-clause-yields
returns-clause-yields c = λ none.
    let closes : closes_at c.args.place ≡ true = grind arith in
    (ended c.args.place closes, ap (tokens_from c.args.place) none ∙ ended c.args.place closes)

pub returns-then-not-may_close-clause-within : goal.returns-then-not-may_close-clause-within
returns-then-not-may_close-clause-within c = λ text are. bad_in text _ _ _ c.bad.ensures.0 c.bad.ensures.2 are.1
