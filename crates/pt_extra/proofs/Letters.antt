-- What a string begins with, and that none is empty but where it closes.
use Rattle.std.proofs.Common.{◌≡◌, ℕ, ◌<◌, ◌≤◌, ◌&&◌, ◌||◌, ◌==◌, Bool, true, false, cond, List, [], ◌∷◌, length, get_or, refl, sym, ap, ◌∙◌, arith}
use Rattle.std.proofs.Common.{codes, drop, Option, None, Some, option_and_then, suc}
use Rattle.std.proofs.lemmas.Bool.{eq-eqb, eqb-true, false≢true, or_parts, not-true}
use Rattle.std.specs.Char.{encode_utf8}
use Rattle.std.specs.Prelude.{⊤, is_some, nat_lt}
use Rattle.json.specs.Run.{is_plain}
use Rattle.json.specs.Text.{code_unit, short_escape, is_high_surrogate, is_low_surrogate, surrogate_pair}
use Rattle.json.specs.Text.{after_backslash, after_high, after_u, content, plain, prepend}
use Rattle.pt_extra.proofs.Lexing.{begun_with}

abbrev first_in : Option (List ℕ) → ℕ
first_in None = 0
first_in (Some t) = get_or t 0 0

abbrev len_in : Option (List ℕ) → ℕ
len_in None = 0
len_in (Some t) = length t

-- a byte that stands for itself comes first
pub plain_first : (x : ℕ) (xs : List ℕ) → is_plain x ≡ true → content plain (x ∷ xs) ≡ prepend (x ∷ []) (content plain xs)
unfolding content
plain_first x xs e =
    let none = or_parts ((x == 34) || (x == 92)) _ (not-true _ e) in
    let tests = or_parts (x == 34) _ none.0 in
    (λ i. cond (tests.0 i) (Some []) (cond (tests.1 i) (content after_backslash xs) (cond (none.1 i) None (prepend (x ∷ []) (content plain xs)))))

-- a backslash is read on behind
pub escape_first : (x : ℕ) (xs : List ℕ) → x ≡ 92 → content plain (x ∷ xs) ≡ content after_backslash xs
unfolding content
escape_first x xs e = ap (λ y. content plain (y ∷ xs)) e

begun_so : (x letter : ℕ) (r : Option (List ℕ)) (s : List ℕ) → prepend (x ∷ []) r ≡ Some (letter ∷ s) → x ≡ letter
begun_so x letter None s e = absurd (false≢true (ap is_some e))
begun_so x letter (Some t) s e = ap first_in e

other_byte : (q b l : Bool) (x letter : ℕ) (xs s : List ℕ) → (b ≡ true → ⊥) → (x ≡ letter → ⊥)
    → cond q (Some []) (cond b (content after_backslash xs) (cond l None (prepend (x ∷ []) (content plain xs)))) ≡ Some (letter ∷ s) → ⊥
other_byte true b l x letter xs s f g e = let no : 0 ≡ suc (length s) = ap len_in e in omega arith
other_byte false true l x letter xs s f g e = f refl
other_byte false false true x letter xs s f g e = false≢true (ap is_some e)
other_byte false false false x letter xs s f g e = g (begun_so x letter (content plain xs) s e)

-- no text begins with a letter that is neither there nor escaped
pub no_letter : (x letter : ℕ) (xs s : List ℕ) → (x ≡ 92 → ⊥) → (x ≡ letter → ⊥) → content plain (x ∷ xs) ≡ Some (letter ∷ s) → ⊥
unfolding content
no_letter x letter xs s f g e = other_byte (x == 34) (x == 92) (nat_lt x 32) x letter xs s (λ h. f (eqb-true x 92 h)) g e

encoded_first : (c : ℕ) → 128 ≤ c → 128 ≤ get_or (encode_utf8 c) 0 0
unfolding encode_utf8
encoded_first c h = grind arith

pub encoded_letter : (c : ℕ) → c < 128 → encode_utf8 c ≡ c ∷ []
unfolding encode_utf8
encoded_letter c h = grind arith

pub encoded_some : (c : ℕ) → 0 < length (encode_utf8 c)
unfolding encode_utf8
encoded_some c = grind arith

begun_by : (a : List ℕ) (r : Option (List ℕ)) (letter : ℕ) (s : List ℕ) → 0 < length a → prepend a r ≡ Some (letter ∷ s) → get_or a 0 0 ≡ letter
begun_by [] r letter s h e = let no : ⊥ = omega arith in absurd no
begun_by (x ∷ a) None letter s h e = absurd (false≢true (ap is_some e))
begun_by (x ∷ a) (Some t) letter s h e = ap first_in e

-- an escaped character that is another
pub other_escape : (c letter : ℕ) (r : Option (List ℕ)) (s : List ℕ) → letter < 128 → (c ≡ letter → ⊥) → prepend (encode_utf8 c) r ≡ Some (letter ∷ s) → ⊥
other_escape c letter r s small other e =
    let first = begun_by (encode_utf8 c) r letter s (encoded_some c) e in
    by (nat_lt c 128) refl first
  where
    by : (t : Bool) → nat_lt c 128 ≡ t → get_or (encode_utf8 c) 0 0 ≡ letter → ⊥
    by true is first = let less : c < 128 = grind (arith, is) in other (sym (ap (λ l. get_or l 0 0) (encoded_letter c less)) ∙ first)
    by false is first = let more : 128 ≤ c = grind (arith, is) in omega (arith, encoded_first c more)

-- what follows the first letter
pub letter_off : (x : ℕ) (r : Option (List ℕ)) (s : List ℕ) → prepend (x ∷ []) r ≡ Some (x ∷ s) → r ≡ Some s
letter_off x None s e = absurd (false≢true (ap is_some e))
letter_off x (Some t) s e = ap (λ o. Some (tail_of o)) e
  where
    tail_of : Option (List ℕ) → List ℕ
    tail_of None = []
    tail_of (Some []) = []
    tail_of (Some (y ∷ t)) = t

-- ---- only the closing quote is empty

abbrev IsFilled : Option (List ℕ) → Type 0
IsFilled None = ⊤
IsFilled (Some []) = ⊥
IsFilled (Some (x ∷ s)) = ⊤

either : (b : Bool) (x y : Option (List ℕ)) → IsFilled x → IsFilled y → IsFilled (cond b x y)
either true x y p q = p
either false x y p q = q

then : (f : ℕ → Option (List ℕ)) (o : Option ℕ) → ((u : ℕ) → IsFilled (f u)) → IsFilled (option_and_then f o)
then f None h = tt
then f (Some u) h = h u

filled : (a : List ℕ) (r : Option (List ℕ)) → 0 < length a → IsFilled (prepend a r)
filled [] r h = let no : ⊥ = omega arith in absurd no
filled (x ∷ a) None h = tt
filled (x ∷ a) (Some s) h = tt

high_filled : (h : ℕ) (xs : List ℕ) → IsFilled (content (after_high h) xs)
unfolding content
high_filled h [] = tt
high_filled h (s ∷ []) = tt
high_filled h (s ∷ u ∷ []) = tt
high_filled h (s ∷ u ∷ a ∷ []) = tt
high_filled h (s ∷ u ∷ a ∷ b ∷ []) = tt
high_filled h (s ∷ u ∷ a ∷ b ∷ c ∷ []) = tt
high_filled h (s ∷ u ∷ a ∷ b ∷ c ∷ d ∷ xs) =
    either ((s == 92) && (u == 117)) _ None (then _ (code_unit a b c d)
    (λ l. either (is_low_surrogate l) _ None (filled _ (content plain xs) (encoded_some (surrogate_pair h l))) tt)) tt

unit_filled : (xs : List ℕ) → IsFilled (content after_u xs)
unfolding content
unit_filled [] = tt
unit_filled (a ∷ []) = tt
unit_filled (a ∷ b ∷ []) = tt
unit_filled (a ∷ b ∷ c ∷ []) = tt
unit_filled (a ∷ b ∷ c ∷ d ∷ xs) =
    then _ (code_unit a b c d) (λ u. either (is_high_surrogate u) _ _ (high_filled u xs)
    (either (is_low_surrogate u) None _ tt (filled _ (content plain xs) (encoded_some u))))

escape_filled : (xs : List ℕ) → IsFilled (content after_backslash xs)
unfolding content
escape_filled [] = tt
escape_filled (x ∷ xs) = either (x == 117) _ _ (unit_filled xs) (then _ (short_escape x) (λ c. filled (c ∷ []) (content plain xs) (omega arith)))

abbrev IsClosed : Bool → Option (List ℕ) → Type 0
IsClosed true o = ⊤
IsClosed false o = IsFilled o

byte_closed : (q b l : Bool) (x : ℕ) (xs : List ℕ)
    → IsClosed q (cond q (Some []) (cond b (content after_backslash xs) (cond l None (prepend (x ∷ []) (content plain xs)))))
byte_closed true b l x xs = tt
byte_closed false true l x xs = escape_filled xs
byte_closed false false true x xs = tt
byte_closed false false false x xs = filled (x ∷ []) (content plain xs) (omega arith)

not_filled : (o : Option (List ℕ)) → IsFilled o → o ≡ Some [] → ⊥
not_filled None h e = false≢true (ap is_some e)
not_filled (Some []) h e = h
not_filled (Some (x ∷ s)) h e = let no : suc (length s) ≡ 0 = ap len_in e in omega arith

-- no text is empty but where a quote comes
pub no_quote : (x : ℕ) (xs : List ℕ) → (x ≡ 34 → ⊥) → content plain (x ∷ xs) ≡ Some [] → ⊥
unfolding content
no_quote x xs other e = by (x == 34) refl
  where
    by : (q : Bool) → (x == 34) ≡ q → ⊥
    by true is = other (eqb-true x 34 is)
    by false is =
        let same = ap (λ q. cond q (Some []) (cond (x == 92) (content after_backslash xs)
        (cond (nat_lt x 32) None (prepend (x ∷ []) (content plain xs))))) is in
        not_filled _ (byte_closed false (x == 92) (nat_lt x 32) x xs) (sym same ∙ e)

pub quote_first : (x : ℕ) (xs : List ℕ) → x ≡ 34 → content plain (x ∷ xs) ≡ Some []
unfolding content
quote_first x xs e = ap (λ y. content plain (y ∷ xs)) e

-- nothing is no text
pub nothing_there : (t : List ℕ) (s : List ℕ) → length t ≡ 0 → content plain t ≡ Some s → ⊥
unfolding content
nothing_there [] s none e = false≢true (ap is_some e)
nothing_there (x ∷ t) s none e = omega (arith, none)

-- ---- the text `id`

pub closes_id : (t a b : List ℕ) → content plain t ≡ prepend (105 ∷ []) (content plain a) → content plain a ≡ prepend (100 ∷ []) (content plain b)
    → content plain b ≡ Some [] → content plain t ≡ Some (codes "id")
closes_id t a b first second e = first ∙ ap (prepend (105 ∷ [])) (second ∙ ap (prepend (100 ∷ [])) e)

pub id_closes : (t a b : List ℕ) → content plain t ≡ prepend (105 ∷ []) (content plain a) → content plain a ≡ prepend (100 ∷ []) (content plain b)
    → content plain t ≡ Some (codes "id") → content plain b ≡ Some []
id_closes t a b first second e = letter_off 100 (content plain b) [] (sym second ∙ letter_off 105 (content plain a) (100 ∷ []) (sym first ∙ e))

pub must_close : (t : List ℕ) → 0 < length t → content plain t ≡ Some [] → (get_or t 0 0 == 34) ≡ true
must_close t some e = by (get_or t 0 0 == 34) refl
  where
    by : (q : Bool) → (get_or t 0 0 == 34) ≡ q → (get_or t 0 0 == 34) ≡ true
    by true is = is
    by false is =
        absurd (no_quote (get_or t 0 0) (drop 1 t) (λ q. false≢true (sym is ∙ eq-eqb (get_or t 0 0) 34 q))
        (sym (ap (content plain) (begun_with t (get_or t 0 0) some refl)) ∙ e))
