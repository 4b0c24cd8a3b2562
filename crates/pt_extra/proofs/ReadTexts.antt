-- The text at `id` in what was read.
use Rattle.std.proofs.Common.{◌≡◌, ◌<◌, ◌∙◌, ap, refl, sym, subst, codes, ℕ, List, [], ◌∷◌, length, Option, Some, None, option_map, arith}
use Rattle.std.specs.Option.{option_and_then, unwrap_or}
use Rattle.json.specs.Text.{content, plain}
use Rattle.json.specs.Token as spec
use Rattle.json.specs.Json.{items, value, parse_map}
use Rattle.json.specs.Lex.{tokens}
use Rattle.pt_extra.specs.Tokens.{text_of, token_of}
use Rattle.pt_extra.specs.declared.lexemes.Token.{Token}
use Rattle.pt_extra.specs.declared.lexemes.Token.TheVariants.{BeginObject, EndObject, BeginArray, EndArray, Key, String, Number, Bool, Null, Bad}
use Rattle.json.proofs.Grammar.{value_is, value-begin_array}
use Rattle.pt_extra.specs.Inventories.{text_in, unless_empty}
use Rattle.serde_json.specs.Data.{Data, Items, Members, Num, array, null, number, object, put}
use Rattle.serde_json.specs.Find.{as_str, get_member}
use Rattle.serde_json.specs.Read.{converted, number_of, of_items, of_json, read}
use Rattle.pt_extra.proofs.Converted.{converted-array, whole_and_more, whole_read, whole_refused}
use Rattle.serde_json.proofs.Views.{get_member-put, get_member-put_other}

-- the text is `id`, or another
pub is_id : (s : List ℕ) → content plain s ≡ Some (codes "id") → text_of s ≡ codes "id"
is_id s is = ap (λ o. unwrap_or o []) is

pub no_id : (s : List ℕ) → (content plain s ≡ Some (codes "id") → ⊥) → codes "id" ≡ text_of s → ⊥
no_id s other same = by (content plain s) refl
  where
    by : (o : Option (List ℕ)) → content plain s ≡ o → ⊥
    by None is =
        let empty : codes "id" ≡ [] = same ∙ ap (λ (o : Option (List ℕ)). unwrap_or o []) is in
        let no : 2 ≡ 0 = ap length empty in
        omega (arith, no)
    by (Some t) is = other (is ∙ ap Some (sym (same ∙ ap (λ (o : Option (List ℕ)). unwrap_or o []) is)))

-- once a value stands at `id`
pub text_at : (k : List ℕ) (d : Data) (ms : Members) → k ≡ codes "id" → text_in (object (put k d ms)) ≡ as_str d
text_at k d ms is = subst (λ (n : List ℕ). option_and_then as_str (get_member n (put k d ms)) ≡ as_str d) is
    (ap (option_and_then as_str) (get_member-put k d ms))

-- and at another name
pub text_kept : (k : List ℕ) (d : Data) (ms : Members) → (codes "id" ≡ k → ⊥) → text_in (object (put k d ms)) ≡ text_in (object ms)
text_kept k d ms other = ap (option_and_then as_str) (get_member-put_other (codes "id") k d ms other)

-- ---- what is no object has none

abbrev pub text_read : Option (Data × List spec.Token) → Option (List ℕ)
text_read o = option_and_then (λ p. text_in p.0) o

of_array : (o : Option (Items × List spec.Token)) → text_read (parse_map array o) ≡ None
of_array None = refl
of_array (Some p) = refl

of_number : (n : Option Num) (rest : List spec.Token) → text_read (option_map (λ d. (d, rest)) (option_map number n)) ≡ None
of_number None rest = refl
of_number (Some n) rest = refl

pub no_object : (ts rest : List spec.Token) (t : Token) → ts ≡ token_of t ∷ rest → (t ≡ BeginObject → ⊥) → text_read (converted of_json (value 127 ts)) ≡ None
no_object ts rest BeginObject first other = absurd (other refl)
no_object ts rest BeginArray first other =
    ap (λ o. text_read (converted of_json o)) (ap (value 127) first ∙ value-begin_array 127 rest (omega arith))
    ∙ ap text_read (converted-array (items (value 126) (length rest) rest)) ∙ of_array (converted of_items (items (value 126) (length rest) rest))
no_object ts rest (Number s) first other = ap (λ o. text_read (converted of_json o)) (ap (value 127) first ∙ value_is 127 _) ∙ of_number (number_of s.now) rest
no_object ts rest EndObject first other = ap (λ o. text_read (converted of_json o)) (ap (value 127) first ∙ value_is 127 _)
no_object ts rest EndArray first other = ap (λ o. text_read (converted of_json o)) (ap (value 127) first ∙ value_is 127 _)
no_object ts rest (Key s) first other = ap (λ o. text_read (converted of_json o)) (ap (value 127) first ∙ value_is 127 _)
no_object ts rest (String s) first other = ap (λ o. text_read (converted of_json o)) (ap (value 127) first ∙ value_is 127 _)
no_object ts rest (Bool b) first other = ap (λ o. text_read (converted of_json o)) (ap (value 127) first ∙ value_is 127 _)
no_object ts rest Null first other = ap (λ o. text_read (converted of_json o)) (ap (value 127) first ∙ value_is 127 _)
no_object ts rest Bad first other = ap (λ o. text_read (converted of_json o)) (ap (value 127) first ∙ value_is 127 _)

-- ---- the whole text

-- nothing is read of it
nothing : (text : List ℕ) → read text ≡ None → None ≡ text_in (unwrap_or (read text) null)
nothing text is = sym (ap (λ o. text_in (unwrap_or o null)) is)

pub none_read : (text : List ℕ) → text_read (converted of_json (value 127 (tokens text))) ≡ None → None ≡ text_in (unwrap_or (read text) null)
none_read text none = by (converted of_json (value 127 (tokens text))) refl none
  where
    by : (o : Option (Data × List spec.Token)) → converted of_json (value 127 (tokens text)) ≡ o → text_read o ≡ None
        → None ≡ text_in (unwrap_or (read text) null)
    by None is none = nothing text (whole_refused (value 127 (tokens text)) is)
    by (Some (d, [])) is none = sym (ap (λ o. text_in (unwrap_or o null)) (whole_read (value 127 (tokens text)) d is) ∙ none)
    by (Some (d, t ∷ rest)) is none = nothing text (whole_and_more (value 127 (tokens text)) d t rest is)

-- there is more behind it
pub more_read : (text : List ℕ) (d : Data) (t : spec.Token) (rest : List spec.Token) → converted of_json (value 127 (tokens text)) ≡ Some (d, t ∷ rest)
    → None ≡ text_in (unwrap_or (read text) null)
more_read text d t rest is = nothing text (whole_and_more (value 127 (tokens text)) d t rest is)

-- it is all
pub all_read : (text : List ℕ) (d : Data) (ts : List spec.Token) → converted of_json (value 127 (tokens text)) ≡ Some (d, ts) → ts ≡ []
    → text_in d ≡ text_in (unwrap_or (read text) null)
all_read text d ts is end = sym (ap (λ o. text_in (unwrap_or o null)) (whole_read (value 127 (tokens text)) d (is ∙ ap (λ r. Some (d, r)) end)))

-- ---- a text that may be empty

pub text_some : (t : List ℕ) → 0 < length t → Some t ≡ unless_empty t
text_some [] some = let no : ⊥ = omega (arith, some) in absurd no
text_some (x ∷ t) some = refl

pub text_none : (t : List ℕ) → length t ≡ 0 → None ≡ unless_empty t
text_none [] none = refl
text_none (x ∷ t) none = let no : ⊥ = omega (arith, none) in absurd no
