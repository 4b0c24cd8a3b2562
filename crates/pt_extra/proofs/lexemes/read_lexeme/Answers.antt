use Rattle.std.proofs.Common.{◌≡◌, ◌<◌, ◌-◌, ◌∷◌, drop, false, get_or, length, refl, subst, sym, take, take_all, ap, ◌∙◌, arith, rules}
use Rattle.std.proofs.lemmas.List.{get_or_default, length-drop}
use Rattle.std.specs.List.{prefix_len}
use Rattle.json.specs.Lex.{between, in_word, lex, token}
use Rattle.json.specs.Word.{is_operator, is_space, word}
use Rattle.pt_extra.proofs.Lexing.{begun_with, lex_none, lex_word, lexed, mark, word_first}
use Rattle.pt_extra.specs.Tokens.{Lexes, is_inner, token_of}
use Rattle.pt_extra.specs.declared.lexemes.Lexeme.TheVariants as Lexeme
use Rattle.pt_extra.specs.declared.lexemes.Token.TheVariants.{BeginArray, BeginObject, EndArray, EndObject}
use Rattle.pt_extra.proofs.Within.{are_in_part, behind, sliced, word_in}
use Rattle.pt_extra.specs.Tokens.{token_in}
use Rattle.pt_extra.proofs.lexemes.read_lexeme.Goals as goal

pub returns-then-is_empty-clause-lexes : goal.returns-then-is_empty-clause-lexes
returns-then-is_empty-clause-lexes c =
    let t = c.after_spaces-found.result.now in
    let none = lex_none t (grind arith) in
    (sym c.after_spaces-found.ensures.same ∙ none, none)

pub returns-in-34-clause-lexes : goal.returns-in-34-clause-lexes
returns-in-34-clause-lexes c =
    let t = c.after_spaces-found.result.now in
    let some : 0 < length t = grind arith in
    let whole = take_all (length t - 1) (drop 1 t) (omega (arith, length-drop 1 t)) in
    subst (λ ls. Lexes ls c.read_string.result.0 c.read_string.result.1.now)
    (ap (λ r. lex between (34 ∷ r)) whole ∙ sym (ap (lex between) (begun_with t 34 some c.in-34.is)) ∙ c.after_spaces-found.ensures.same)
    c.read_string.ensures.lexes

pub returns-in-123-clause-lexes : goal.returns-in-123-clause-lexes
unfolding lex
returns-in-123-clause-lexes c =
    let t = c.after_spaces-found.result.now in
    mark c.args.text.now t 123 (Lexeme.Token BeginObject) _ c.after_spaces-found.ensures.same (grind arith) c.in-123.is (λ xs. refl)
    (take_all (length t - 1) (drop 1 t) (omega (arith, length-drop 1 t)))

pub returns-in-125-clause-lexes : goal.returns-in-125-clause-lexes
unfolding lex
returns-in-125-clause-lexes c =
    let t = c.after_spaces-found.result.now in
    mark c.args.text.now t 125 (Lexeme.Token EndObject) _ c.after_spaces-found.ensures.same (grind arith) c.in-125.is (λ xs. refl)
    (take_all (length t - 1) (drop 1 t) (omega (arith, length-drop 1 t)))

pub returns-in-91-clause-lexes : goal.returns-in-91-clause-lexes
unfolding lex
returns-in-91-clause-lexes c =
    let t = c.after_spaces-found.result.now in
    mark c.args.text.now t 91 (Lexeme.Token BeginArray) _ c.after_spaces-found.ensures.same (grind arith) c.in-91.is (λ xs. refl)
    (take_all (length t - 1) (drop 1 t) (omega (arith, length-drop 1 t)))

pub returns-in-93-clause-lexes : goal.returns-in-93-clause-lexes
unfolding lex
returns-in-93-clause-lexes c =
    let t = c.after_spaces-found.result.now in
    mark c.args.text.now t 93 (Lexeme.Token EndArray) _ c.after_spaces-found.ensures.same (grind arith) c.in-93.is (λ xs. refl)
    (take_all (length t - 1) (drop 1 t) (omega (arith, length-drop 1 t)))

pub returns-in-44-clause-lexes : goal.returns-in-44-clause-lexes
unfolding lex
returns-in-44-clause-lexes c =
    let t = c.after_spaces-found.result.now in
    mark c.args.text.now t 44 (Lexeme.Comma) _ c.after_spaces-found.ensures.same (grind arith) c.in-44.is (λ xs. refl)
    (take_all (length t - 1) (drop 1 t) (omega (arith, length-drop 1 t)))

pub returns-in-58-clause-lexes : goal.returns-in-58-clause-lexes
unfolding lex
returns-in-58-clause-lexes c =
    let t = c.after_spaces-found.result.now in
    mark c.args.text.now t 58 (Lexeme.Colon) _ c.after_spaces-found.ensures.same (grind arith) c.in-58.is (λ xs. refl)
    (take_all (length t - 1) (drop 1 t) (omega (arith, length-drop 1 t)))

pub returns-in_default-clause-lexes : goal.returns-in_default-clause-lexes
returns-in_default-clause-lexes c =
    let t = c.after_spaces-found.result.now in
    let some : 0 < length t = grind arith in
    let x = get_or t 0 0 in
    let rest = drop 1 t in
    let whole = take_all (length t - 1) rest (omega (arith, length-drop 1 t)) in
    let spaced : is_space x ≡ false = ap is_space (get_or_default t 0 0 32 some) ∙ c.after_spaces-found.ensures.solid some in
    let mark_not : is_operator x ≡ false = first_of (search rules, grind arith) in
    let begun = begun_with t x some refl in
    let n = c.word_len.result in
    let len = c.word_len.ensures.value ∙ ap (prefix_len is_inner) whole in
    let behind = take_all _ (drop n (take (length t - 1) rest)) (omega (arith, length-drop n (take (length t - 1) rest))) in
    lexed _ (Lexeme.Token c.word.result) _ (sym c.after_spaces-found.ensures.same ∙ ap (lex between) begun
    ∙ word_first x rest (λ e. grind (arith, e)) mark_not spaced
    ∙ ap (λ u. token (word u) ∷ lex in_word rest) (sym begun) ∙ ap (λ k. token k ∷ lex in_word rest) (sym c.word.ensures)
    ∙ ap (λ ls. token (token_of c.word.result) ∷ ls)
    (lex_word rest ∙ ap (λ k. lex between (drop k rest)) (sym len) ∙ ap (λ r. lex between (drop n r)) (sym whole)
    ∙ ap (lex between) (sym behind)))

pub returns-then-is_empty-clause-within : goal.returns-then-is_empty-clause-within
returns-then-is_empty-clause-within c = (tt, c.after_spaces-found.ensures.within)

pub returns-in-34-clause-within : goal.returns-in-34-clause-within
returns-in-34-clause-within c =
    let t = c.after_spaces-found.result.now in
    let some : 0 < length t = grind arith in
    let rest = take_all (length t - 1) (drop 1 t) (omega (arith, length-drop 1 t)) in
    are_in_part c.args.text.now _ (token_in c.read_string.result.0) c.read_string.result.1.now
    (c.after_spaces-found.ensures.within.0, ap (λ r. 34 ∷ r) rest ∙ sym (begun_with t 34 some c.in-34.is) ∙ c.after_spaces-found.ensures.within.1)
    c.read_string.ensures.within

pub returns-in-123-clause-within : goal.returns-in-123-clause-within
returns-in-123-clause-within c =
    let t = c.after_spaces-found.result.now in
    (tt, behind c.args.text.now t _ c.after_spaces-found.ensures.within (sliced t 1))

pub returns-in-125-clause-within : goal.returns-in-125-clause-within
returns-in-125-clause-within c =
    let t = c.after_spaces-found.result.now in
    (tt, behind c.args.text.now t _ c.after_spaces-found.ensures.within (sliced t 1))

pub returns-in-91-clause-within : goal.returns-in-91-clause-within
returns-in-91-clause-within c =
    let t = c.after_spaces-found.result.now in
    (tt, behind c.args.text.now t _ c.after_spaces-found.ensures.within (sliced t 1))

pub returns-in-93-clause-within : goal.returns-in-93-clause-within
returns-in-93-clause-within c =
    let t = c.after_spaces-found.result.now in
    (tt, behind c.args.text.now t _ c.after_spaces-found.ensures.within (sliced t 1))

pub returns-in-44-clause-within : goal.returns-in-44-clause-within
returns-in-44-clause-within c =
    let t = c.after_spaces-found.result.now in
    (tt, behind c.args.text.now t _ c.after_spaces-found.ensures.within (sliced t 1))

pub returns-in-58-clause-within : goal.returns-in-58-clause-within
returns-in-58-clause-within c =
    let t = c.after_spaces-found.result.now in
    (tt, behind c.args.text.now t _ c.after_spaces-found.ensures.within (sliced t 1))

pub returns-in_default-clause-within : goal.returns-in_default-clause-within
returns-in_default-clause-within c =
    let t = c.after_spaces-found.result.now in
    let rest = behind c.args.text.now t _ c.after_spaces-found.ensures.within (sliced t 1) in
    (word_in c.args.text.now t c.word.result c.word.ensures, behind c.args.text.now _ _ rest (sliced _ c.word_len.result))
