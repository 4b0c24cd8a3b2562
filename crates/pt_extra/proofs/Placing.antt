-- What a lexeme gives at each place.
use Rattle.std.proofs.Common.{◌≡◌, ℕ, Bool, true, false, List, [], ◌∷◌, refl, sym, ap, ◌∙◌, subst}
use Rattle.std.proofs.Common.{Option, None, Some}
use Rattle.std.proofs.lemmas.Bool.{false≢true, true≢false}
use Rattle.std.specs.Prelude.{is_some, unwrap_or}
use Rattle.json.specs.Lex.{Lexeme, begins_colon, between, colon, comma, lex, place_token, punctuate, token}
use Rattle.json.specs.Lex as lexing
use Rattle.json.specs.Token as spec
use Rattle.json.specs.Align.{is_good}
use Rattle.pt_extra.specs.Tokens.{Lexes, Yields, begins_at, closes_at, is_colon, is_passed, place_behind, text_of, token_of, tokens_at, tokens_from}
use Rattle.pt_extra.specs.declared.lexemes.Lexeme.{Lexeme as Found}
use Rattle.pt_extra.specs.declared.lexemes.Lexeme.TheVariants as found
use Rattle.std.specs.Borrow.{Bor}
use Rattle.pt_extra.specs.declared.lexemes.Token.{Token}
use Rattle.pt_extra.specs.declared.lexemes.Token.TheVariants.{BeginObject, EndObject, BeginArray, EndArray, Key, String, Number, Bool as Boolean, Null, Bad}
use Rattle.pt_extra.specs.declared.tokens.Place.{Place}
use Rattle.pt_extra.specs.declared.tokens.Place.TheVariants.{Fresh, AfterValue, AfterComma, Failed}

no_place : (next : Place) → None ≡ Some next → ⊥
no_place next e = false≢true (ap is_some e)

a_place : (place : Place) → Some place ≡ None → ⊥
a_place place e = true≢false (ap is_some e)

on : (t : spec.Token) (ls : List Lexeme) (p next : Place) → Some p ≡ Some next → t ∷ tokens_from p ls ≡ t ∷ tokens_from next ls
on t ls p next e = ap (λ (o : Option Place). t ∷ tokens_from (unwrap_or o Failed) ls) e

text_here : (b : Bool) (s : List ℕ) (ls : List Lexeme) (p : lexing.Place) → b ≡ false → lexing.may_begin p ≡ true
    → place_token p (spec.string s) b (λ n. punctuate n ls) ≡ spec.string s ∷ punctuate lexing.after_value ls
text_here true s ls p e h = absurd (true≢false e)
text_here false s ls p e h = ap (λ b. lexing.if_allowed b (spec.string s) (λ n. punctuate n ls) lexing.after_value) h

-- whether it is a string
abbrev pub is_text : Token → Bool
is_text BeginObject = false
is_text EndObject = false
is_text BeginArray = false
is_text EndArray = false
is_text (Key s) = false
is_text (String s) = true
is_text (Number s) = false
is_text (Boolean b) = false
is_text Null = false
is_text Bad = false

pub not_text : (t : Token) → ((s : Bor (List ℕ)) → t ≡ String s → ⊥) → is_text t ≡ false
not_text BeginObject other = refl
not_text EndObject other = refl
not_text BeginArray other = refl
not_text EndArray other = refl
not_text (Key s) other = refl
not_text (String s) other = absurd (other s refl)
not_text (Number s) other = refl
not_text (Boolean b) other = refl
not_text Null other = refl
not_text Bad other = refl

-- what may stand somewhere is no bad token
pub good : (place : Place) (t : Token) (next : Place) → place_behind place t ≡ Some next → is_good (token_of t) ≡ true
good place BeginObject next e = refl
good place EndObject next e = refl
good place BeginArray next e = refl
good place EndArray next e = refl
good place (Key s) next e = absurd (no_place next e)
good place (String s) next e = refl
good place (Number s) next e = refl
good place (Boolean b) next e = refl
good place Null next e = refl
good place Bad next e = absurd (no_place next e)

pub text_begins : (place : Place) (s : Bor (List ℕ)) (next : Place) → place_behind place (String s) ≡ Some next → begins_at place ≡ true
text_begins Fresh s next e = refl
text_begins AfterValue s next e = absurd (no_place next e)
text_begins AfterComma s next e = refl
text_begins Failed s next e = absurd (no_place next e)

-- a token that may stand at a place comes, unless it is a string
pub placed : (place : Place) (t : Token) (ls : List Lexeme) (next : Place) → place_behind place t ≡ Some next → is_text t ≡ false
    → tokens_from place (token (token_of t) ∷ ls) ≡ token_of t ∷ tokens_from next ls
unfolding punctuate
placed Fresh BeginObject ls next e other = on (token_of BeginObject) ls Fresh next e
placed Fresh EndObject ls next e other = on (token_of EndObject) ls AfterValue next e
placed Fresh BeginArray ls next e other = on (token_of BeginArray) ls Fresh next e
placed Fresh EndArray ls next e other = on (token_of EndArray) ls AfterValue next e
placed Fresh (Key s) ls next e other = absurd (no_place next e)
placed Fresh (String s) ls next e other = absurd (true≢false other)
placed Fresh (Number s) ls next e other = on (token_of (Number s)) ls AfterValue next e
placed Fresh (Boolean b) ls next e other = on (token_of (Boolean b)) ls AfterValue next e
placed Fresh Null ls next e other = on (token_of Null) ls AfterValue next e
placed Fresh Bad ls next e other = absurd (no_place next e)
placed AfterValue BeginObject ls next e other = absurd (no_place next e)
placed AfterValue EndObject ls next e other = on (token_of EndObject) ls AfterValue next e
placed AfterValue BeginArray ls next e other = absurd (no_place next e)
placed AfterValue EndArray ls next e other = on (token_of EndArray) ls AfterValue next e
placed AfterValue (Key s) ls next e other = absurd (no_place next e)
placed AfterValue (String s) ls next e other = absurd (no_place next e)
placed AfterValue (Number s) ls next e other = absurd (no_place next e)
placed AfterValue (Boolean b) ls next e other = absurd (no_place next e)
placed AfterValue Null ls next e other = absurd (no_place next e)
placed AfterValue Bad ls next e other = absurd (no_place next e)
placed AfterComma BeginObject ls next e other = on (token_of BeginObject) ls Fresh next e
placed AfterComma EndObject ls next e other = absurd (no_place next e)
placed AfterComma BeginArray ls next e other = on (token_of BeginArray) ls Fresh next e
placed AfterComma EndArray ls next e other = absurd (no_place next e)
placed AfterComma (Key s) ls next e other = absurd (no_place next e)
placed AfterComma (String s) ls next e other = absurd (true≢false other)
placed AfterComma (Number s) ls next e other = on (token_of (Number s)) ls AfterValue next e
placed AfterComma (Boolean b) ls next e other = on (token_of (Boolean b)) ls AfterValue next e
placed AfterComma Null ls next e other = on (token_of Null) ls AfterValue next e
placed AfterComma Bad ls next e other = absurd (no_place next e)
placed Failed BeginObject ls next e other = absurd (no_place next e)
placed Failed EndObject ls next e other = absurd (no_place next e)
placed Failed BeginArray ls next e other = absurd (no_place next e)
placed Failed EndArray ls next e other = absurd (no_place next e)
placed Failed (Key s) ls next e other = absurd (no_place next e)
placed Failed (String s) ls next e other = absurd (no_place next e)
placed Failed (Number s) ls next e other = absurd (no_place next e)
placed Failed (Boolean b) ls next e other = absurd (no_place next e)
placed Failed Null ls next e other = absurd (no_place next e)
placed Failed Bad ls next e other = absurd (no_place next e)

text_refused : (b : Bool) (s : List ℕ) (ls : List Lexeme) (p : lexing.Place) → lexing.may_begin p ≡ false
    → place_token p (spec.string s) b (λ n. punctuate n ls) ≡ spec.bad ∷ []
text_refused true s ls p h = ap (λ b. lexing.if_allowed b (spec.key s) (λ n. punctuate n ls) lexing.after_key) h
text_refused false s ls p h = ap (λ b. lexing.if_allowed b (spec.string s) (λ n. punctuate n ls) lexing.after_value) h

-- where it may not stand, nothing more is read
pub refused : (place : Place) (t : Token) (ls : List Lexeme) → (place ≡ Failed → ⊥) → place_behind place t ≡ None
    → tokens_from place (token (token_of t) ∷ ls) ≡ spec.bad ∷ []
unfolding punctuate
refused Fresh BeginObject ls going e = absurd (a_place Fresh e)
refused Fresh EndObject ls going e = absurd (a_place AfterValue e)
refused Fresh BeginArray ls going e = absurd (a_place Fresh e)
refused Fresh EndArray ls going e = absurd (a_place AfterValue e)
refused Fresh (Key s) ls going e = refl
refused Fresh (String s) ls going e = absurd (a_place AfterValue e)
refused Fresh (Number s) ls going e = absurd (a_place AfterValue e)
refused Fresh (Boolean b) ls going e = absurd (a_place AfterValue e)
refused Fresh Null ls going e = absurd (a_place AfterValue e)
refused Fresh Bad ls going e = refl
refused AfterValue BeginObject ls going e = refl
refused AfterValue EndObject ls going e = absurd (a_place AfterValue e)
refused AfterValue BeginArray ls going e = refl
refused AfterValue EndArray ls going e = absurd (a_place AfterValue e)
refused AfterValue (Key s) ls going e = refl
refused AfterValue (String s) ls going e = text_refused (begins_colon ls) (text_of s.now) ls lexing.after_value refl
refused AfterValue (Number s) ls going e = refl
refused AfterValue (Boolean b) ls going e = refl
refused AfterValue Null ls going e = refl
refused AfterValue Bad ls going e = refl
refused AfterComma BeginObject ls going e = absurd (a_place Fresh e)
refused AfterComma EndObject ls going e = refl
refused AfterComma BeginArray ls going e = absurd (a_place Fresh e)
refused AfterComma EndArray ls going e = refl
refused AfterComma (Key s) ls going e = refl
refused AfterComma (String s) ls going e = absurd (a_place AfterValue e)
refused AfterComma (Number s) ls going e = absurd (a_place AfterValue e)
refused AfterComma (Boolean b) ls going e = absurd (a_place AfterValue e)
refused AfterComma Null ls going e = absurd (a_place AfterValue e)
refused AfterComma Bad ls going e = refl
refused Failed BeginObject ls going e = absurd (going refl)
refused Failed EndObject ls going e = absurd (going refl)
refused Failed BeginArray ls going e = absurd (going refl)
refused Failed EndArray ls going e = absurd (going refl)
refused Failed (Key s) ls going e = absurd (going refl)
refused Failed (String s) ls going e = absurd (going refl)
refused Failed (Number s) ls going e = absurd (going refl)
refused Failed (Boolean b) ls going e = absurd (going refl)
refused Failed Null ls going e = absurd (going refl)
refused Failed Bad ls going e = absurd (going refl)

-- a string before a colon is a key
pub key_placed : (place : Place) (s : List ℕ) (ls : List Lexeme) → begins_at place ≡ true
    → tokens_from place (token (spec.string s) ∷ colon ∷ ls) ≡ spec.key s ∷ tokens_from Fresh ls
unfolding punctuate
key_placed Fresh s ls h = refl
key_placed AfterValue s ls h = absurd (false≢true h)
key_placed AfterComma s ls h = refl
key_placed Failed s ls h = absurd (false≢true h)

-- and else a string
pub text_placed : (place : Place) (s : List ℕ) (ls : List Lexeme) → begins_at place ≡ true → begins_colon ls ≡ false
    → tokens_from place (token (spec.string s) ∷ ls) ≡ spec.string s ∷ tokens_from AfterValue ls
unfolding punctuate
text_placed Fresh s ls h plain = text_here (begins_colon ls) s ls lexing.fresh plain refl
text_placed AfterValue s ls h plain = absurd (false≢true h)
text_placed AfterComma s ls h plain = text_here (begins_colon ls) s ls lexing.after_comma plain refl
text_placed Failed s ls h plain = absurd (false≢true h)

-- the end
pub ended : (place : Place) → closes_at place ≡ true → tokens_from place [] ≡ []
unfolding punctuate
ended Fresh h = refl
ended AfterValue h = refl
ended AfterComma h = absurd (false≢true h)
ended Failed h = refl

pub not_ended : (place : Place) → (place ≡ Failed → ⊥) → closes_at place ≡ false → tokens_from place [] ≡ spec.bad ∷ []
unfolding punctuate
not_ended Fresh going h = absurd (true≢false h)
not_ended AfterValue going h = absurd (true≢false h)
not_ended AfterComma going h = refl
not_ended Failed going h = absurd (going refl)

-- a colon that follows no key
pub stray_colon : (place : Place) (ls : List Lexeme) → (place ≡ Failed → ⊥) → tokens_from place (colon ∷ ls) ≡ spec.bad ∷ []
unfolding punctuate
stray_colon Fresh ls going = refl
stray_colon AfterValue ls going = refl
stray_colon AfterComma ls going = refl
stray_colon Failed ls going = absurd (going refl)

-- a comma that follows no value
pub stray_comma : (place : Place) (ls : List Lexeme) → (place ≡ Failed → ⊥) → (place ≡ AfterValue → ⊥) → tokens_from place (comma ∷ ls) ≡ spec.bad ∷ []
unfolding punctuate
stray_comma Fresh ls going before = refl
stray_comma AfterValue ls going before = absurd (before refl)
stray_comma AfterComma ls going before = refl
stray_comma Failed ls going before = absurd (going refl)

-- the one bad token
pub yields_bad : (old : List spec.Token) (t : Option Token) (p : Place) (rest : List ℕ) → t ≡ Some Bad → p ≡ Failed → old ≡ spec.bad ∷ []
    → Yields old t (tokens_at p rest)
yields_bad old t p rest te pe is = subst (λ (u : Option Token). Yields old u (tokens_at p rest)) (sym te) (is ∙ ap (λ q. spec.bad ∷ tokens_at q rest) (sym pe))

pub passed_is : (p : Place) (n : Option Found) → is_passed p n ≡ true → (p ≡ AfterValue) × (n ≡ Some found.Comma)
passed_is Fresh n e = absurd (false≢true e)
passed_is AfterValue None e = absurd (false≢true e)
passed_is AfterValue (Some (found.Token t)) e = absurd (false≢true e)
passed_is AfterValue (Some found.Comma) e = (refl, refl)
passed_is AfterValue (Some found.Colon) e = absurd (false≢true e)
passed_is AfterComma n e = absurd (false≢true e)
passed_is Failed n e = absurd (false≢true e)

pub colon_is : (n : Option Found) → is_colon n ≡ true → n ≡ Some found.Colon
colon_is None e = absurd (false≢true e)
colon_is (Some (found.Token t)) e = absurd (false≢true e)
colon_is (Some found.Comma) e = absurd (false≢true e)
colon_is (Some found.Colon) e = refl

pub no_colon : (ls : List Lexeme) (n : Option Found) (rest : List ℕ) → Lexes ls n rest → is_colon n ≡ false → begins_colon ls ≡ false
no_colon ls None rest h e = ap begins_colon h.0
no_colon ls (Some (found.Token t)) rest h e = ap begins_colon h.0
no_colon ls (Some found.Comma) rest h e = ap begins_colon h.0
no_colon ls (Some found.Colon) rest h e = absurd (true≢false e)

-- one that follows a value is passed
pub comma_passed : (ls : List Lexeme) → tokens_from AfterValue (comma ∷ ls) ≡ tokens_from AfterComma ls
unfolding punctuate
comma_passed ls = refl
