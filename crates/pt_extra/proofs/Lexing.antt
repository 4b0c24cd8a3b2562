-- What the lexer of the library `json` does in a word, in a string and between them.
use Rattle.std.proofs.Common.{◌≡◌, ℕ, suc, ◌+◌, ◌<◌, ◌≤◌, Bool, true, false, not, ◌||◌, cond, ◌&&◌}
use Rattle.std.proofs.Common.{◌==◌, List, [], ◌∷◌, length, drop, get_or, refl, sym, ap, ◌∙◌, subst, arith}
use Rattle.std.proofs.Common.{Option, None, Some, ◌⊎◌, inl, inr}
use Rattle.std.proofs.lemmas.Bool.{false≢true, true≢false, eqb-true, ne_eqb, and_parts, or_parts, or_cases, not-true}
use Rattle.std.proofs.lemmas.List.{drop_more, drop-drop}
use Rattle.std.specs.Char.{is_digit}
use Rattle.std.specs.List.{prefix_len}
use Rattle.std.specs.Prelude.{IfSome, is_some, unwrap_or}
use Rattle.json.specs.Lex.{Lexeme, Mode, between, in_escape, in_string, in_word, lex, lex_byte, string_token}
use Rattle.json.specs.Lex.{backslash, operator, other, quote, space, token}
use Rattle.json.specs.Run.{is_plain}
use Rattle.json.specs.Text.{code_unit}
use Rattle.json.specs.Token.{bad, string}
use Rattle.json.specs.Word.{after_number, is_operator, is_space, word}
use Rattle.pt_extra.specs.Tokens.{Lexes, is_inner, lexeme_of}
use Rattle.pt_extra.specs.declared.lexemes.Lexeme.{Lexeme as Found}
use Rattle.pt_extra.proofs.Contents.{all_hex}

abbrev ends : ℕ → Bool
ends x = is_operator x || is_space x

not_this : (c x : ℕ) (f : ℕ → Bool) (t : Bool) → (t ≡ true → x ≡ c) → f c ≡ false → f x ≡ true → t ≡ false
not_this c x f false e never h = refl
not_this c x f true e never h = absurd (false≢true (sym never ∙ ap f (sym (e refl)) ∙ h))

-- ---- in a word

over : (q b o s : Bool) (x : ℕ) (xs : List ℕ) (k : Mode → List Lexeme) → q ≡ false → b ≡ false → (o || s) ≡ true
    → lex_byte in_word (cond q quote (cond b backslash (cond o operator (cond s space other)))) x xs k
    ≡ lex_byte between (cond q quote (cond b backslash (cond o operator (cond s space other)))) x xs k
over true b o s x xs k p r h = absurd (true≢false p)
over false true o s x xs k p r h = absurd (true≢false r)
over false false true s x xs k p r h = refl
over false false false true x xs k p r h = refl
over false false false false x xs k p r h = absurd (false≢true h)

goes_on : (q b o s : Bool) (x : ℕ) (xs : List ℕ) (k : Mode → List Lexeme) → (o || s) ≡ false
    → lex_byte in_word (cond q quote (cond b backslash (cond o operator (cond s space other)))) x xs k ≡ k in_word
goes_on true b o s x xs k h = refl
goes_on false true o s x xs k h = refl
goes_on false false true s x xs k h = absurd (true≢false h)
goes_on false false false true x xs k h = absurd (true≢false h)
goes_on false false false false x xs k h = refl

word_byte : (t : Bool) (x n : ℕ) (xs : List ℕ) → t ≡ ends x → lex in_word xs ≡ lex between (drop n xs)
    → lex in_word (x ∷ xs) ≡ lex between (drop (cond (not t) (1 + n) 0) (x ∷ xs))
unfolding lex
word_byte true x n xs e so_far =
    over (x == 34) (x == 92) (is_operator x) (is_space x) x xs (λ m. lex m xs) (not_this 34 x ends (x == 34) (eqb-true x 34) refl (sym e))
    (not_this 92 x ends (x == 92) (eqb-true x 92) refl (sym e)) (sym e)
word_byte false x n xs e so_far =
    let next : suc n ≡ 1 + n = omega arith in
    goes_on (x == 34) (x == 92) (is_operator x) (is_space x) x xs (λ m. lex m xs) (sym e) ∙ so_far ∙ ap (λ k. lex between (drop k (x ∷ xs))) next

-- a word goes up to the first byte that ends one
pub lex_word : (xs : List ℕ) → lex in_word xs ≡ lex between (drop (prefix_len is_inner xs) xs)
unfolding lex
lex_word [] = refl
lex_word (x ∷ xs) = word_byte (ends x) x (prefix_len is_inner xs) xs refl (lex_word xs)

-- ---- spaces

or_last : (P : ℕ → Type 0) (x c : ℕ) (b : Bool) → P c → (b ≡ true → P x) → (b ≡ true) ⊎ ((x == c) ≡ true) → P x
or_last P x c b p f (inl e) = f e
or_last P x c b p f (inr e) = subst P (sym (eqb-true x c e)) p

at_space : (P : ℕ → Type 0) → P 32 → P 9 → P 10 → P 13 → (x : ℕ) → is_space x ≡ true → P x
at_space P a b c d x h =
    or_last P x 13 _ d (λ i. or_last P x 10 _ c (λ j. or_last P x 9 _ b (λ k. subst P (sym (eqb-true x 32 k)) a) (or_cases _ _ j)) (or_cases _ _ i))
    (or_cases _ _ h)

-- a space is passed
pub lex_space : (x : ℕ) (xs : List ℕ) → is_space x ≡ true → lex between (x ∷ xs) ≡ lex between xs
unfolding lex
lex_space x xs h = at_space (λ (y : ℕ). lex between (y ∷ xs) ≡ lex between xs) refl refl refl refl x h

pub lex-nil : lex between [] ≡ []
unfolding lex
lex-nil = refl

-- ---- in a string

stays : (o s : Bool) (x : ℕ) (xs : List ℕ) (k : Mode → List Lexeme) → lex_byte in_string (cond o operator (cond s space other)) x xs k ≡ k in_string
stays true s x xs k = refl
stays false true x xs k = refl
stays false false x xs k = refl

inner : (x : ℕ) (xs : List ℕ) → (x == 34) ≡ false → (x == 92) ≡ false → lex in_string (x ∷ xs) ≡ lex in_string xs
unfolding lex
inner x xs q b =
    (λ i. lex_byte in_string (cond (q i) quote (cond (b i) backslash (cond (is_operator x) operator (cond (is_space x) space other)))) x xs (λ m. lex m xs))
    ∙ stays (is_operator x) (is_space x) x xs (λ m. lex m xs)

run_byte : (p : Bool) (x n : ℕ) (xs : List ℕ) → p ≡ is_plain x → lex in_string xs ≡ lex in_string (drop n xs)
    → lex in_string (x ∷ xs) ≡ lex in_string (drop (cond p (1 + n) 0) (x ∷ xs))
run_byte false x n xs e so_far = refl
run_byte true x n xs e so_far =
    let next : suc n ≡ 1 + n = omega arith in
    let none = or_parts ((x == 34) || (x == 92)) _ (not-true _ (sym e)) in
    let tests = or_parts (x == 34) _ none.0 in
    inner x xs tests.0 tests.1 ∙ so_far ∙ ap (λ k. lex in_string (drop k (x ∷ xs))) next

lex_run : (xs : List ℕ) → lex in_string xs ≡ lex in_string (drop (prefix_len is_plain xs) xs)
lex_run [] = refl
lex_run (x ∷ xs) = run_byte (is_plain x) x (prefix_len is_plain xs) xs refl (lex_run xs)

-- the plain bytes of a string are passed
pub lex_to_stop : (d : List ℕ) (i stop : ℕ) → stop ≡ i + prefix_len is_plain (drop i d) → lex in_string (drop i d) ≡ lex in_string (drop stop d)
lex_to_stop d i stop is = lex_run (drop i d) ∙ ap (lex in_string) (drop-drop _ i d ∙ ap (λ k. drop k d) (sym is))

-- its closing quote
pub lex_quote : (d : List ℕ) (i : ℕ) → i < length d → get_or d i 0 ≡ 34 → lex in_string (drop i d) ≡ lex between (drop (i + 1) d)
unfolding lex
lex_quote d i h e = ap (lex in_string) (drop_more d i 0 h ∙ ap (λ x. x ∷ drop (i + 1) d) e)

-- a backslash
pub lex_backslash : (d : List ℕ) (i : ℕ) → i < length d → get_or d i 0 ≡ 92 → lex in_string (drop i d) ≡ lex in_escape (drop (i + 1) d)
unfolding lex
lex_backslash d i h e = ap (lex in_string) (drop_more d i 0 h ∙ ap (λ x. x ∷ drop (i + 1) d) e)

-- and the byte behind it
pub lex_escape : (d : List ℕ) (i : ℕ) → i < length d → lex in_escape (drop i d) ≡ lex in_string (drop (i + 1) d)
unfolding lex
lex_escape d i h = ap (lex in_escape) (drop_more d i 0 h)

hex : (d : List ℕ) (i : ℕ) → i < length d → is_digit (get_or d i 0) 16 ≡ true → lex in_string (drop i d) ≡ lex in_string (drop (i + 1) d)
hex d i h is =
    let x = get_or d i 0 in
    let digit = λ (y : ℕ). is_digit y 16 in
    ap (lex in_string) (drop_more d i 0 h)
    ∙ inner x (drop (i + 1) d) (not_this 34 x digit (x == 34) (eqb-true x 34) refl is) (not_this 92 x digit (x == 92) (eqb-true x 92) refl is)

-- the four digits of a code unit
pub lex_unit : (d : List ℕ) (i : ℕ) → i + 4 ≤ length d
    → is_some (code_unit (get_or d i 0) (get_or d (i + 1) 0) (get_or d (i + 2) 0) (get_or d (i + 3) 0)) ≡ true
    → lex in_string (drop i d) ≡ lex in_string (drop (i + 4) d)
unfolding code_unit
lex_unit d i h some =
    let a = get_or d i 0 in
    let b = get_or d (i + 1) 0 in
    let c = get_or d (i + 2) 0 in
    let e = get_or d (i + 3) 0 in
    let p = and_parts (is_digit a 16 && is_digit b 16 && is_digit c 16) (is_digit e 16) (all_hex _ _ some) in
    let q = and_parts (is_digit a 16 && is_digit b 16) (is_digit c 16) p.0 in
    let r = and_parts (is_digit a 16) (is_digit b 16) q.0 in
    let two : i + 1 + 1 ≡ i + 2 = omega arith in
    let three : i + 2 + 1 ≡ i + 3 = omega arith in
    let four : i + 3 + 1 ≡ i + 4 = omega arith in
    let on = λ (k j : ℕ) (is : k ≡ j). ap (λ n. lex in_string (drop n d)) is in
    hex d i (omega arith) r.0 ∙ hex d (i + 1) (omega arith) r.1 ∙ on (i + 1 + 1) (i + 2) two ∙ hex d (i + 2) (omega arith) q.1 ∙ on (i + 2 + 1) (i + 3) three
    ∙ hex d (i + 3) (omega arith) p.1 ∙ on (i + 3 + 1) (i + 4) four

-- ---- the token of a string

pub good_string : (o : Option (List ℕ)) → is_some o ≡ true → string_token o ≡ string (unwrap_or o [])
good_string None h = absurd (false≢true h)
good_string (Some s) h = refl

-- what is lexed as from a place on goes on behind an escape
pub lexed_on : (d : List ℕ) (r : Option (ℕ × ℕ)) (a b : List Lexeme) → a ≡ b → IfSome r (λ c. b ≡ lex in_string (drop c.1 d))
    → IfSome r (λ c. a ≡ lex in_string (drop c.1 d))
lexed_on d None a b is h = h
lexed_on d (Some c) a b is h = is ∙ h

pub bad_string : (o : Option (List ℕ)) → is_some o ≡ false → string_token o ≡ bad
bad_string None h = refl
bad_string (Some s) h = absurd (true≢false h)

-- ---- a lexeme that is a mark, or a word

pub lex_none : (t : List ℕ) → length t ≡ 0 → lex between t ≡ []
unfolding lex
lex_none [] e = refl
lex_none (x ∷ t) e = let no : ⊥ = omega (arith, e) in absurd no

-- what is first, and the rest of it
pub begun_with : (t : List ℕ) (x : ℕ) → 0 < length t → get_or t 0 0 ≡ x → t ≡ x ∷ drop 1 t
begun_with t x some first = drop_more t 0 0 some ∙ ap (λ y. y ∷ drop 1 t) first

-- it is lexed, once this is what comes first
pub lexed : (ls : List Lexeme) (l : Found) (rest : List ℕ) → ls ≡ lexeme_of l ∷ lex between rest → Lexes ls (Some l) rest
lexed ls l rest is = (is ∙ ap (λ more. lexeme_of l ∷ more) (sym (ap (drop 1) is)), λ good. sym (ap (drop 1) is))

pub mark : (text t : List ℕ) (x : ℕ) (l : Found) (rest : List ℕ) → lex between t ≡ lex between text → 0 < length t → get_or t 0 0 ≡ x
    → ((xs : List ℕ) → lex between (x ∷ xs) ≡ lexeme_of l ∷ lex between xs) → rest ≡ drop 1 t → Lexes (lex between text) (Some l) rest
mark text t x l rest same some first reads is =
    lexed (lex between text) l rest (sym same ∙ ap (lex between) (begun_with t x some first) ∙ reads (drop 1 t)
    ∙ ap (λ r. lexeme_of l ∷ lex between r) (sym is))

-- a byte that begins no mark, string or space begins a word, or what is none
pub word_first : (x : ℕ) (xs : List ℕ) → (x ≡ 34 → ⊥) → is_operator x ≡ false → is_space x ≡ false
    → lex between (x ∷ xs) ≡ token (word (x ∷ xs)) ∷ lex in_word xs
unfolding lex word after_number
word_first x xs quoted mark_not spaced = by (x == 92) refl
  where
    no_quote : (x == 34) ≡ false
    no_quote = ne_eqb x 34 quoted

    by : (b : Bool) → (x == 92) ≡ b → lex between (x ∷ xs) ≡ token (word (x ∷ xs)) ∷ lex in_word xs
    by true is = subst (λ (y : ℕ). lex between (y ∷ xs) ≡ token (word (y ∷ xs)) ∷ lex in_word xs) (sym (eqb-true x 92 is)) refl
    by false is =
        (λ i. lex_byte between (cond (no_quote i) quote (cond (is i) backslash (cond (mark_not i) operator (cond (spaced i) space other)))) x xs
        (λ m. lex m xs))
