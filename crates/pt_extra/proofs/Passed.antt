-- JSON values that are passed over, one behind another.
use Rattle.std.proofs.Common.{◌≡◌, ◌∙◌, ap, ℕ, true, false, List, ◌∷◌, Option, Some, None, is_some, option_map, refl}
use Rattle.std.specs.Prelude.{OnErr, Result, Ok, Err}
use Rattle.std.specs.Prelude as prelude
use Rattle.json.specs.Token as spec
use Rattle.json.specs.Json.{after_end_array, parse_map, value}
use Rattle.pt_extra.specs.Tokens.{token_of}
use Rattle.pt_extra.specs.declared.lexemes.Token.{Token}
use Rattle.pt_extra.specs.declared.lexemes.Token.TheVariants.{BeginObject, EndObject, BeginArray, EndArray, Key, String, Number, Bool, Null, Bad}
use Rattle.json.proofs.Grammar.{value_is}
use Rattle.serde_json.specs.Data.{Data, Items, Num, boolean, item, null, number}
use Rattle.serde_json.specs.Find.{as_str}
use Rattle.serde_json.specs.Read.{converted, of_json}

-- what was read, behind an item more
pub behind : (f : Items → Items) (d : Data) (r : Option (Items × List spec.Token)) → parse_map f (parse_map (item d) r) ≡ parse_map (λ rest. f (item d rest)) r
behind f d None = refl
behind f d (Some p) = refl

-- nothing stands before it yet
pub none_before : (r : Option (Items × List spec.Token)) → r ≡ parse_map (λ rest. rest) r
none_before None = refl
none_before (Some p) = refl

-- what is there
pub is_there : {A : Type 0} (o : Option A) → is_some o ≡ true → (a : A) × (o ≡ Some a)
is_there None is = absurd (cc)
is_there (Some a) is = (a, refl)

-- and what isn't
pub not_there : {A : Type 0} (o : Option A) → is_some o ≡ false → o ≡ None
not_there None is = refl
not_there (Some a) is = absurd (cc)

-- whatever the answer is called
pub at_err : {T E X : Type 0} (result : Result T E) → X → OnErr result X
at_err (Ok x) it = tt
at_err (Err why) it = it

-- a value that is true, false or null
abbrev pub is_plain : Token → prelude.Bool
is_plain (Bool b) = true
is_plain Null = true
is_plain _ = false

-- it is read so, and is no text
pub plain : (depth : ℕ) (ts rest : List spec.Token) (t : Token) → ts ≡ token_of t ∷ rest → is_plain t ≡ true
    → (d : Data) × (converted of_json (value depth ts) ≡ Some (d, rest)) × (None ≡ as_str d)
plain depth ts rest (Bool b) first is = (boolean b, ap (converted of_json) (ap (value depth) first ∙ value_is depth _), refl)
plain depth ts rest Null first is = (null, ap (converted of_json) (ap (value depth) first ∙ value_is depth _), refl)
plain depth ts rest BeginObject first is = absurd (cc)
plain depth ts rest EndObject first is = absurd (cc)
plain depth ts rest BeginArray first is = absurd (cc)
plain depth ts rest EndArray first is = absurd (cc)
plain depth ts rest (Key s) first is = absurd (cc)
plain depth ts rest (String s) first is = absurd (cc)
plain depth ts rest (Number s) first is = absurd (cc)
plain depth ts rest Bad first is = absurd (cc)

-- what is read of a number of this value, if it has one
abbrev pub in_range : List spec.Token → Option Num → Option (Data × List spec.Token)
in_range rest n = option_map (λ d. (d, rest)) (option_map number n)

-- a token that closes no array
pub no_end : (t : Token) (rest : List spec.Token) → (t ≡ EndArray → ⊥) → after_end_array (token_of t ∷ rest) ≡ None
no_end BeginObject rest other = refl
no_end EndObject rest other = refl
no_end BeginArray rest other = refl
no_end EndArray rest other = absurd (other refl)
no_end (Key s) rest other = refl
no_end (String s) rest other = refl
no_end (Number s) rest other = refl
no_end (Bool b) rest other = refl
no_end Null rest other = refl
no_end Bad rest other = refl
