-- Identifiers that share a place.
use Rattle.std.proofs.Common.{
  ◌≡◌,
  ◌≢◌,
  ℕ,
  ◌+◌,
  ◌/◌,
  ◌%◌,
  ◌<◌,
  ◌≤◌,
  Bool,
  true,
  false,
  true≢false,
  cond,
  List,
  [],
  ◌∷◌,
  ◌++◌,
  Ok,
  length,
  take,
  drop,
  slice_index,
  inl,
  inr,
  refl,
  sym,
  ap,
  ◌∙◌,
  arith,
  nat_le,
  length-append,
}
use Rattle.std.specs.Prelude.{All}
use Rattle.std.proofs.lemmas.List.{length-take-le, same_from_push, take_at, drop_at, get_or_past}
use Rattle.std.proofs.lemmas.List.Elements.{All-get_or, All-head, All-tail}
use Rattle.std.proofs.lemmas.Bool.{cases_lt, leb-false, leb-true}
use Rattle.sha2.specs.Sha256.{sha256}
use Rattle.hex.specs.Hex.{decode_of, lower_digits}
use Rattle.hex.proofs.HexLemmas.{decode_of-encode_lower}
use Rattle.pt_name.specs.Hex.{hex_pair}
use Rattle.pt_name.specs.Tuples.{Tuples}
use Rattle.pt_name.specs.Place.{SharesShortName, digest_text, encoded_of, encoded_spelling, is_safe, last_name_of, place_of, shortened}
use Rattle.pt_name.proofs.Digits.{All-sha256, same_digit}

-- two bytes of one spelling, whatever follows
same_first : (x y : ℕ) (r s : List ℕ) → x < 256 → y < 256 → encoded_spelling x ++ r ≡ encoded_spelling y ++ s → (x ≡ y) × (r ≡ s)
same_first x y r s u v = go (is_safe x) (is_safe y) refl refl
  where
    go : (a b : Bool) → is_safe x ≡ a → is_safe y ≡ b
        → cond a (x ∷ []) (37 ∷ hex_pair x) ++ r ≡ cond b (y ∷ []) (37 ∷ hex_pair y) ++ s → (x ≡ y) × (r ≡ s)
    go true true ex ey h = (cc h, cc h)
    go true false ex ey h =
        let percent : x ≡ 37 = cc h in
        absurd (true≢false (sym ex ∙ ap is_safe percent))
    go false true ex ey h =
        let percent : y ≡ 37 = cc h in
        absurd (true≢false (sym ey ∙ ap is_safe percent))
    go false false ex ey h =
        let high : slice_index lower_digits (x / 16) ≡ slice_index lower_digits (y / 16) = cc h in
        let low : slice_index lower_digits (x % 16) ≡ slice_index lower_digits (y % 16) = cc h in
        let highs : x / 16 ≡ y / 16 = same_digit (x / 16) (y / 16) (omega arith) (omega arith) high in
        let lows : x % 16 ≡ y % 16 = same_digit (x % 16) (y % 16) (omega arith) (omega arith) low in
        (omega arith, cc h)

-- an encoding isn't empty where the identifier isn't
starts : (y : ℕ) (s : List ℕ) → [] ≡ encoded_spelling y ++ s → ⊥
starts y s = go (is_safe y)
  where
    go : (b : Bool) → [] ≡ cond b (y ∷ []) (37 ∷ hex_pair y) ++ s → ⊥
    go true h = cc h
    go false h = cc h

-- one encoding, one identifier
same_encoded : (a b : List ℕ) → All (λ x. x < 256) a → All (λ x. x < 256) b → encoded_of a ≡ encoded_of b → a ≡ b
same_encoded [] [] u v h = refl
same_encoded [] (y ∷ b) u v h = absurd (starts y (encoded_of b) h)
same_encoded (x ∷ a) [] u v h = absurd (starts x (encoded_of a) (sym h))
same_encoded (x ∷ a) (y ∷ b) u v h =
    let both = same_first x y (encoded_of a) (encoded_of b) (All-head (λ x. x < 256) x a u) (All-head (λ x. x < 256) y b v) h in
    let rest = same_encoded a b (All-tail (λ x. x < 256) x a u) (All-tail (λ x. x < 256) y b v) both.1 in
    cc (both.0, rest)

-- the bytes of a SHA-256 from its text
same_digest : (a b : List ℕ) → digest_text a ≡ digest_text b → sha256 a ≡ sha256 b
same_digest a b h =
    let one : Ok (sha256 a) ≡ Ok (sha256 b) = sym (decode_of-encode_lower (sha256 a) (small a)) ∙ ap decode_of h
    ∙ decode_of-encode_lower (sha256 b) (small b) in
    cc one
  where
    small : (id : List ℕ) (i : ℕ) → slice_index (sha256 id) i < 256
    small id i = elim (cases_lt i (length (sha256 id))) [
      | inl within ↦ All-get_or (λ x. x < 256) (sha256 id) i 0 within (All-sha256 id)
      | inr past ↦ rw (get_or_past (sha256 id) i 0 past) (omega arith)
    ]

-- two shortened encodings that are one
record Alike (e f d g : List ℕ) : Type 0 where
  first_long : 100 < length e
  second_long : 100 < length f
  front : take 100 e ≡ take 100 f
  digits : d ≡ g

-- a long encoding's front has 100 characters
long_front : (e : List ℕ) → 100 < length e → length (take 100 e) ≡ 100
long_front e h = length-take-le 100 e (omega arith)

alike : (e f d g : List ℕ) → e ≢ f → shortened e d ≡ shortened f g → Alike e f d g
alike e f d g differ = go (nat_le (length e) 100) (nat_le (length f) 100) refl refl
  where
    go : (s t : Bool) → nat_le (length e) 100 ≡ s → nat_le (length f) 100 ≡ t
        → cond s e (take 100 e ++ 45 ∷ d) ≡ cond t f (take 100 f ++ 45 ∷ g) → Alike e f d g
    go true true x y h = absurd (differ h)
    go true false x y h =
        let short : length e ≤ 100 = leb-true (length e) 100 x in
        let long : 100 < length f = leb-false (length f) 100 y in
        let n = long_front f long in
        let m : length e ≡ length (take 100 f) + length (45 ∷ g) = ap length h ∙ length-append (take 100 f) (45 ∷ g) in
        absurd (omega arith)
    go false true x y h =
        let short : length f ≤ 100 = leb-true (length f) 100 y in
        let long : 100 < length e = leb-false (length e) 100 x in
        let n = long_front e long in
        let m : length f ≡ length (take 100 e) + length (45 ∷ d) = ap length (sym h) ∙ length-append (take 100 e) (45 ∷ d) in
        absurd (omega arith)
    go false false x y h =
        let first : 100 < length e = leb-false (length e) 100 x in
        let second : 100 < length f = leb-false (length f) 100 y in
        let rest : 45 ∷ d ≡ 45 ∷ g = sym (drop_at (take 100 e) (45 ∷ d) 100 (long_front e first)) ∙ ap (drop 100) h
        ∙ drop_at (take 100 f) (45 ∷ g) 100 (long_front f second) in
        record {
          first_long = first;
          second_long = second;
          front = sym (take_at (take 100 e) (45 ∷ d) 100 (long_front e first)) ∙ ap (take 100) h ∙ take_at (take 100 f) (45 ∷ g) 100 (long_front f second);
          digits = cc rest;
        }

-- the law
pub one_place : (tuples : Tuples) (a b : List ℕ) → All (λ byte. byte < 256) a → All (λ byte. byte < 256) b → a ≢ b
    → place_of tuples a ≡ place_of tuples b → SharesShortName a b
one_place tuples a b u v differ h =
    let last : last_name_of a ≡ last_name_of b = (same_from_push _ _ _ _ h).1 in
    let same = alike (encoded_of a) (encoded_of b) (digest_text a) (digest_text b) (λ e. differ (same_encoded a b u v e)) last in
    record {
      first_long = same.first_long;
      second_long = same.second_long;
      front = same.front;
      digest = same_digest a b same.digits;
    }
