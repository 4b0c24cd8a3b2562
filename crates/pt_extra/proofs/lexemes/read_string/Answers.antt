use Rattle.std.proofs.Common.{◌≡◌, ◌-◌, ◌∷◌, drop, false, length, refl, take_all, true, ap, sym, ◌∙◌, arith}
use Rattle.std.specs.Prelude.{is_some}
use Rattle.std.proofs.lemmas.List.{length-drop}
use Rattle.json.specs.Lex.{between, in_string, lex, token}
use Rattle.json.specs.Text.{content, plain}
use Rattle.pt_extra.proofs.Lexing.{bad_string, good_string}
use Rattle.pt_extra.proofs.Within.{behind, sliced, whole}
use Rattle.pt_extra.proofs.lexemes.read_string.Goals as goal

pub returns-in-Some-clause-lexes : goal.returns-in-Some-clause-lexes
unfolding lex
returns-in-Some-clause-lexes c =
    let t = c.args.text.now in
    let some : is_some (content plain t) ≡ true = grind arith in
    let n = c.in-Some.len in
    let after = ap (lex between) (take_all (length t - n) (drop n t) (omega (arith, length-drop n t))) ∙ sym c.in-Some.ensures.lexed in
    (ap (λ k. token k ∷ lex in_string t) (good_string (content plain t) some), λ good. after)

pub returns-in-None-clause-lexes : goal.returns-in-None-clause-lexes
unfolding lex
returns-in-None-clause-lexes c =
    let t = c.args.text.now in
    let none : is_some (content plain t) ≡ false = grind arith in
    (ap (λ k. token k ∷ lex in_string t) (bad_string (content plain t) none), λ good. absurd (cc))

pub returns-in-Some-clause-within : goal.returns-in-Some-clause-within
returns-in-Some-clause-within c =
    let t = c.args.text.now in
    (whole (34 ∷ t), behind (34 ∷ t) t _ (1, refl) (sliced t c.in-Some.len))

pub returns-in-None-clause-within : goal.returns-in-None-clause-within
returns-in-None-clause-within c = (tt, (1, refl))
