-- What is read of a text is what it ends with.
use Rattle.std.proofs.Common.{◌≡◌, ℕ, ◌+◌, ◌-◌, ◌<◌, ◌≤◌, List, ◌∷◌, length, drop, get_or, sym, ap, ◌∙◌, subst, arith}
use Rattle.std.proofs.Common.{Option, None, Some, false, true, refl, suc, zero, take_all}
use Rattle.std.proofs.lemmas.Bool.{true≢false}
use Rattle.std.proofs.lemmas.List.{drop-drop, drop_more, length-drop}
use Rattle.std.proofs.Math.ListN.{drop_of_length-le}
use Rattle.std.proofs.lemmas.Str.{IsCharBoundary-after_ascii}
use Rattle.std.specs.List.{starts_with}
use Rattle.std.specs.Prelude.{◌&&◌, ◌==◌, IfSome, cond, nat_eq, take}
use Rattle.std.specs.Prelude as prelude
use Rattle.std.specs.Borrow.{Bor}
use Rattle.std.specs.Str.{IsCharBoundary, IsUtf8}
use Rattle.json.specs.Token as spec
use Rattle.json.specs.Ascii as ascii
use Rattle.json.specs.Word.{after_number, ends_word, head, literal, number_before, word}
use Rattle.pt_extra.specs.Tokens.{AreIn, IsIn, IsRest, IsStringIn, token_of}
use Rattle.pt_extra.specs.declared.lexemes.Token.{Token}
use Rattle.pt_extra.specs.declared.lexemes.Token.TheVariants.{BeginObject, EndObject, BeginArray, EndArray, Key, String, Number, Bool as Boolean, Null, Bad}

-- a text ends with all of it
pub whole : (text : List ℕ) → IsRest text text
whole text = (0, refl)

-- and with what is behind some bytes of what it ends with
pub behind : (text part rest : List ℕ) → IsRest text part → IsRest part rest → IsRest text rest
behind text part rest first more =
    (first.0 + more.0, more.1 ∙ ap (drop more.0) first.1 ∙ drop-drop more.0 first.0 text)

-- a slice to the end
pub sliced : (text : List ℕ) (n : ℕ) → IsRest text (take (length text - n) (drop n text))
sliced text n = (n, take_all (length text - n) (drop n text) (omega (arith, length-drop n text)))

-- it isn't longer
pub no_longer : (text rest : List ℕ) → IsRest text rest → length rest ≤ length text
no_longer text rest found = let long = ap length found.1 in omega (arith, long, length-drop found.0 text)

-- and its length says where it begins
pub begins : (text rest : List ℕ) → IsRest text rest → drop (length text - length rest) text ≡ rest
begins text rest found = by (found.0 - length text) refl
  where
    long : length rest ≡ length (drop found.0 text)
    long = ap length found.1

    by : (over : ℕ) → found.0 - length text ≡ over → drop (length text - length rest) text ≡ rest
    by zero is =
        let at : length text - length rest ≡ found.0 = omega (arith, long, is, length-drop found.0 text) in
        ap (λ n. drop n text) at ∙ sym found.1
    by (suc over) is =
        drop_of_length-le text (omega (arith, long, is, length-drop found.0 text)) ∙ sym (drop_of_length-le text (omega (arith, is))) ∙ sym found.1

-- what is of a part is of the text
pub in_part : (text part : List ℕ) (t : Token) → IsRest text part → IsIn part t → IsIn text t
in_part text part BeginObject of is = tt
in_part text part EndObject of is = tt
in_part text part BeginArray of is = tt
in_part text part EndArray of is = tt
in_part text part (Key s) of is = tt
in_part text part (String s) of is = behind text part (34 ∷ s.now) of is
in_part text part (Number s) of is = tt
in_part text part (Boolean b) of is = tt
in_part text part Null of is = tt
in_part text part Bad of is = tt

pub are_in_part : (text part : List ℕ) (t : Option Token) (rest : List ℕ) → IsRest text part → AreIn part t rest → AreIn text t rest
are_in_part text part None rest of are = (tt, behind text part rest of are.1)
are_in_part text part (Some t) rest of are = (in_part text part t of are.0, behind text part rest of are.1)

-- the one bad token
pub bad_in : (text rest behind : List ℕ) (t : Option Token) → t ≡ Some Bad → behind ≡ rest → IsRest text rest → AreIn text t behind
bad_in text rest behind t bad same is = (subst (λ (u : Option Token). IfSome u (IsIn text)) (sym bad) tt, subst (IsRest text) (sym same) is)

-- ---- a word is no string

abbrev pub is_string : spec.Token → prelude.Bool
is_string (spec.string s) = true
is_string _ = false

literal_none : (b : prelude.Bool) (t : spec.Token) → is_string t ≡ false → is_string (cond b t spec.bad) ≡ false
literal_none true t is = is
literal_none false t is = refl

number_none : (text : List ℕ) (rest : Option (List ℕ)) → is_string (number_before text rest) ≡ false
number_none text None = refl
number_none text (Some rest) = literal_none (ends_word rest) (spec.number (take (length text - length rest) text)) refl

one_none : (b : prelude.Bool) (t u : spec.Token) → is_string t ≡ false → is_string u ≡ false → is_string (cond b t u) ≡ false
one_none true t u p q = p
one_none false t u p q = q

word_none : (text : List ℕ) → is_string (word text) ≡ false
unfolding word
word_none text =
    let t = literal ascii.true_text (spec.boolean true) text in
    let f = literal ascii.false_text (spec.boolean false) text in
    let n = literal ascii.null_text spec.null text in
    let other = number_before text (after_number text) in
    let rest = cond (head text == ascii.lower_n) n other in
    one_none (head text == ascii.lower_t) t (cond (head text == ascii.lower_f) f rest)
    (literal_none (starts_with nat_eq text ascii.true_text && ends_word (drop (length ascii.true_text) text)) (spec.boolean true) refl)
    (one_none (head text == ascii.lower_f) f rest
    (literal_none (starts_with nat_eq text ascii.false_text && ends_word (drop (length ascii.false_text) text)) (spec.boolean false) refl)
    (one_none (head text == ascii.lower_n) n other
    (literal_none (starts_with nat_eq text ascii.null_text && ends_word (drop (length ascii.null_text) text)) spec.null refl)
    (number_none text (after_number text))))

no_string : (text : List ℕ) (t : Token) → is_string (token_of t) ≡ false → IsIn text t
no_string text BeginObject other = tt
no_string text EndObject other = tt
no_string text BeginArray other = tt
no_string text EndArray other = tt
no_string text (Key s) other = tt
no_string text (String s) other = absurd (true≢false other)
no_string text (Number s) other = tt
no_string text (Boolean b) other = tt
no_string text Null other = tt
no_string text Bad other = tt

pub word_in : (text found : List ℕ) (t : Token) → token_of t ≡ word found → IsIn text t
word_in text found t is = no_string text t (ap is_string is ∙ word_none found)

-- ---- a string of a text begins where a character does

pub string_begins : (text : List ℕ) (s : List ℕ) → IsUtf8 text → IsRest text (34 ∷ s) → IsCharBoundary text (length text - length s)
string_begins text s valid found =
    let whole = begins text (34 ∷ s) found in
    let long = no_longer text (34 ∷ s) found in
    let at = length text - length (34 ∷ s) in
    let within : at < length text = omega (arith, long) in
    let quote : get_or text at 0 ≡ 34 = ap (λ xs. get_or xs 0 0) (sym (drop_more text at 0 within) ∙ whole) in
    let next : at + 1 ≡ length text - length s = omega (arith, long) in
    subst (IsCharBoundary text) next (IsCharBoundary-after_ascii text at valid within (omega (arith, quote)))

pub string_rest : (text : List ℕ) (s : List ℕ) → IsRest text (34 ∷ s) → IsRest text s
string_rest text s found = behind text (34 ∷ s) s found (1, refl)

pub string_bound : (text : List ℕ) (found : Option (Bor (List ℕ))) → IsStringIn text found → IfSome found (λ s. length s.now ≤ length text)
string_bound text None is = tt
string_bound text (Some s) is = no_longer text s.now (string_rest text s.now is)
