use Rattle.std.proofs.Common.{◌≡◌, ◌<◌, ◌-◌, ◌∷◌, [], None, ap, sym, ◌∙◌, drop, get_or, length, refl, take_all, arith}
use Rattle.std.proofs.lemmas.Bool.{false≢true}
use Rattle.std.proofs.lemmas.List.{length-drop}
use Rattle.std.specs.Char.{encode_utf8}
use Rattle.std.specs.Prelude.{is_some}
use Rattle.json.specs.Text.{content, plain, prepend}
use Rattle.pt_extra.proofs.Letters.{encoded_letter, escape_first, no_letter, nothing_there, other_escape, plain_first}
use Rattle.pt_extra.proofs.Lexing.{begun_with}
use Rattle.pt_extra.proofs.strings.after_letter.Goals as goal

pub returns-then-is_empty : goal.returns-then-is_empty
returns-then-is_empty c = λ s e. nothing_there c.args.text.now _ (grind arith) e

pub returns-then-text-letter : goal.returns-then-text-letter
returns-then-text-letter c =
    let t = c.args.text.now in
    let letter = c.args.letter in
    let some : 0 < length t = grind arith in
    let first : get_or t 0 0 ≡ letter = grind arith in
    let whole = take_all (length t - 1) (drop 1 t) (omega (arith, length-drop 1 t)) in
    ap (content plain) (begun_with t letter some first) ∙ plain_first letter (drop 1 t) c.requires.1
    ∙ ap (λ r. prepend (letter ∷ []) (content plain r)) (sym whole)

pub returns-then-text-ne92 : goal.returns-then-text-ne92
returns-then-text-ne92 c = λ s e.
    let t = c.args.text.now in
    let some : 0 < length t = grind arith in
    no_letter (get_or t 0 0) c.args.letter (drop 1 t) s (λ q. grind (arith, q)) (λ q. grind (arith, q))
    (sym (ap (content plain) (begun_with t (get_or t 0 0) some refl)) ∙ e)

pub returns-in_default : goal.returns-in_default
returns-in_default c = λ s e.
    let t = c.args.text.now in
    let some : 0 < length t = grind arith in
    let first : get_or t 0 0 ≡ 92 = grind arith in
    let none : content plain t ≡ None = ap (content plain) (begun_with t 92 some first) ∙ escape_first 92 (drop 1 t) refl ∙ c.in_default.ensures.value in
    false≢true (ap is_some (sym none ∙ e))

pub returns-then-c-letter : goal.returns-then-c-letter
returns-then-c-letter c =
    let t = c.args.text.now in
    let letter = c.args.letter in
    let n = c.in-Some.next in
    let some : 0 < length t = grind arith in
    let first : get_or t 0 0 ≡ 92 = grind arith in
    let same : c.in-Some.c ≡ letter = grind arith in
    let whole = take_all (length t - n) (drop n t) (omega (arith, length-drop n t)) in
    ap (content plain) (begun_with t 92 some first) ∙ escape_first 92 (drop 1 t) refl ∙ c.in-Some.ensures.value.0
    ∙ ap (λ a. prepend a (content plain (drop n t))) (ap encode_utf8 same ∙ encoded_letter letter c.requires.0)
    ∙ ap (λ r. prepend (letter ∷ []) (content plain r)) (sym whole)

pub returns-else-c-letter : goal.returns-else-c-letter
returns-else-c-letter c = λ s e.
    let t = c.args.text.now in
    let n = c.in-Some.next in
    let some : 0 < length t = grind arith in
    let first : get_or t 0 0 ≡ 92 = grind arith in
    let read = ap (content plain) (begun_with t 92 some first) ∙ escape_first 92 (drop 1 t) refl ∙ c.in-Some.ensures.value.0 in
    other_escape c.in-Some.c c.args.letter (content plain (drop n t)) s c.requires.0 (λ q. grind (arith, q)) (sym read ∙ e)
