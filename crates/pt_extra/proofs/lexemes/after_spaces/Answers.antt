use Rattle.std.proofs.Common.{◌≡◌, ◌<◌, get_or, length, true, ap, ◌∙◌, arith}
use Rattle.std.proofs.lemmas.List.{drop_more}
use Rattle.json.specs.Lex.{between, lex}
use Rattle.json.specs.Word.{is_space}
use Rattle.pt_extra.proofs.Lexing.{lex_space}
use Rattle.pt_extra.proofs.Within.{sliced}
use Rattle.pt_extra.proofs.lexemes.after_spaces.Goals as goal

pub spaces-preserved : goal.spaces-preserved
spaces-preserved c =
    let d = c.args.text.now in
    let at = c.spaces.at in
    let within : at < length d = omega arith in
    let space : is_space (get_or d at 0) ≡ true = grind arith in
    (c.spaces.invariant.0 ∙ ap (lex between) (drop_more d at 0 within) ∙ lex_space _ _ space, omega arith)

pub returns-clause-within : goal.returns-clause-within
returns-clause-within c = sliced c.args.text.now c.spaces.at
