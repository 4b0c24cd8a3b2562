-- The tokens of a text that is read with nothing allocated: of a string and a key they have what follows the opening quote.
use Rattle.std.specs.Prelude.{◌≡◌, ℕ, ⊤, List, [], ◌∷◌, drop, Bool, true, false, cond, not, ◌||◌, Option, None, Some, unwrap_or, IfSome, MatchOption, refl}
use Rattle.std.specs.Borrow.{Bor}
use Rattle.std.specs.Coded.{Coded, code_by, coded×, coded_list, coded_ℕ}
use Rattle.json.specs.Token as spec
use Rattle.json.specs.Text.{content, plain}
use Rattle.json.specs.Word.{is_operator, is_space}
use Rattle.json.specs.Lex as lexing
use Rattle.json.specs.Align.{begins_well}
use Rattle.json.specs.Lex.{after_comma, after_value, between, fresh, lex, punctuate}
use Rattle.pt_extra.specs.declared.lexemes.Lexeme.{Lexeme}
use Rattle.pt_extra.specs.declared.lexemes.Lexeme.TheVariants as lexeme
use Rattle.pt_extra.specs.declared.lexemes.Token.{Token}
use Rattle.pt_extra.specs.declared.lexemes.Token.TheVariants as token
use Rattle.pt_extra.specs.declared.tokens.Place.{Place}
use Rattle.pt_extra.specs.declared.tokens.Place.TheVariants.{Fresh, AfterValue, AfterComma, Failed}

-- a text that is read, and the tokens of it that are still to come
pub record Reading : Type 0 where
  pub text : List ℕ
  pub tokens : List spec.Token

-- and its code
abbrev pub reading_code : Coded Reading
reading_code =
    code_by (List ℕ × List spec.Token) (coded× (coded_list coded_ℕ) spec.tokens_code) (λ r. (r.text, r.tokens)) (λ p. record { text = p.0; tokens = p.1 })
    (λ r. refl)

-- the text of a string, of what follows its opening quote
abbrev pub text_of : List ℕ → List ℕ
text_of inside = unwrap_or (content plain inside) []

-- the token that it is
abbrev pub token_of : Token → spec.Token
token_of token.BeginObject = spec.begin_object
token_of token.EndObject = spec.end_object
token_of token.BeginArray = spec.begin_array
token_of token.EndArray = spec.end_array
token_of (token.Key s) = spec.key (text_of s.now)
token_of (token.String s) = spec.string (text_of s.now)
token_of (token.Number s) = spec.number s.now
token_of (token.Bool b) = spec.boolean b
token_of token.Null = spec.null
token_of token.Bad = spec.bad

-- the lexeme that it is
abbrev pub lexeme_of : Lexeme → lexing.Lexeme
lexeme_of (lexeme.Token t) = lexing.token (token_of t)
lexeme_of lexeme.Comma = lexing.comma
lexeme_of lexeme.Colon = lexing.colon

-- of these lexemes this, if one, is the first, and unless it is bad the rest of the text gives the others
abbrev pub Lexes : List lexing.Lexeme → Option Lexeme → List ℕ → Type 0
Lexes ls None rest = (ls ≡ []) × (lex between rest ≡ [])
Lexes ls (Some l) rest = (ls ≡ lexeme_of l ∷ drop 1 ls) × (begins_well (lexeme_of l ∷ []) ≡ true → lex between rest ≡ drop 1 ls)

-- the tokens that lexemes give at a place
abbrev pub tokens_from : Place → List lexing.Lexeme → List spec.Token
tokens_from Fresh ls = punctuate fresh ls
tokens_from AfterValue ls = punctuate after_value ls
tokens_from AfterComma ls = punctuate after_comma ls
tokens_from Failed ls = []

-- and those that a text gives
abbrev pub tokens_at : Place → List ℕ → List spec.Token
tokens_at place text = tokens_from place (lex between text)

-- whether a value or a key may come
abbrev pub begins_at : Place → Bool
begins_at Fresh = true
begins_at AfterValue = false
begins_at AfterComma = true
begins_at Failed = false

-- whether an array or an object may close
abbrev pub closes_at : Place → Bool
closes_at Fresh = true
closes_at AfterValue = true
closes_at AfterComma = false
closes_at Failed = false

-- where a token may stand, what place follows it
abbrev pub place_behind : Place → Token → Option Place
place_behind place token.BeginObject = cond (begins_at place) (Some Fresh) None
place_behind place token.EndObject = cond (closes_at place) (Some AfterValue) None
place_behind place token.BeginArray = cond (begins_at place) (Some Fresh) None
place_behind place token.EndArray = cond (closes_at place) (Some AfterValue) None
place_behind place (token.Key s) = None
place_behind place (token.String s) = cond (begins_at place) (Some AfterValue) None
place_behind place (token.Number s) = cond (begins_at place) (Some AfterValue) None
place_behind place (token.Bool b) = cond (begins_at place) (Some AfterValue) None
place_behind place token.Null = cond (begins_at place) (Some AfterValue) None
place_behind place token.Bad = None

-- whether this lexeme, if one, is a comma behind a value
abbrev pub is_passed : Place → Option Lexeme → Bool
is_passed Fresh next = false
is_passed AfterValue None = false
is_passed AfterValue (Some (lexeme.Token t)) = false
is_passed AfterValue (Some lexeme.Comma) = true
is_passed AfterValue (Some lexeme.Colon) = false
is_passed AfterComma next = false
is_passed Failed next = false

-- whether this lexeme, if one, is a colon
abbrev pub is_colon : Option Lexeme → Bool
is_colon None = false
is_colon (Some (lexeme.Token t)) = false
is_colon (Some lexeme.Comma) = false
is_colon (Some lexeme.Colon) = true

-- of these tokens this, if one, is the first, and these are the others
abbrev pub Yields : List spec.Token → Option Token → List spec.Token → Type 0
Yields old token new = MatchOption token ((old ≡ []) × (new ≡ [])) (λ t. old ≡ token_of t ∷ new)

-- this is what a text ends with
abbrev pub IsRest : List ℕ → List ℕ → Type 0
IsRest text rest = (n : ℕ) × (rest ≡ drop n text)

-- this string, if one, is what a text ends with behind an opening quote
abbrev pub IsStringIn : List ℕ → Option (Bor (List ℕ)) → Type 0
IsStringIn text found = IfSome found (λ s. IsRest text (34 ∷ s.now))

-- this token, if it is a string, is one of the text
abbrev pub IsIn : List ℕ → Token → Type 0
IsIn text token.BeginObject = ⊤
IsIn text token.EndObject = ⊤
IsIn text token.BeginArray = ⊤
IsIn text token.EndArray = ⊤
IsIn text (token.Key s) = ⊤
IsIn text (token.String s) = IsRest text (34 ∷ s.now)
IsIn text (token.Number s) = ⊤
IsIn text (token.Bool b) = ⊤
IsIn text token.Null = ⊤
IsIn text token.Bad = ⊤

-- the token that this lexeme is, if it is one
abbrev pub token_in : Option Lexeme → Option Token
token_in None = None
token_in (Some (lexeme.Token t)) = Some t
token_in (Some lexeme.Comma) = None
token_in (Some lexeme.Colon) = None

-- this token, if one, and this rest are of the text
abbrev pub AreIn : List ℕ → Option Token → List ℕ → Type 0
AreIn text found rest = IfSome found (IsIn text) × IsRest text rest

-- a byte that doesn't end a word
abbrev pub is_inner : ℕ → Bool
is_inner c = not (is_operator c || is_space c)
