-- What is read of a line, and counted by its word.
use Rattle.std.proofs.Common.{◌≡◌, ◌∙◌, ◌+◌, ◌<◌, ◌^◌, Bool, Bor, List, [], ◌∷◌, ℕ, ap, cond, false, length, map, refl, sym, true}
use Rattle.std.proofs.lemmas.Bool.{lt-ltb, ltb-true}
use Rattle.std.proofs.lemmas.List.{length-map}
use Rattle.std.proofs.lemmas.Str.{IsUtf8-from_is_utf8}
use Rattle.std.proofs.lemmas.Str.Parse.{IsNumeralModel, numerals_by_value, tells_all_ascii_digits}
use Rattle.std.specs.List.{position, position_or_len}
use Rattle.std.specs.Prelude.{◌&&◌, Err, None, Ok, Result, Some, nat_lt, not}
use Rattle.std.specs.Result.{result_ok}
use Rattle.std.specs.Str.{IsUtf8, all_ascii_digits, bytes_eq, is_utf8}
use Rattle.std.specs.Str.Parse.{IsNumeral, ParsesUnsigned, digits_value, without_leading_plus}
use Rattle.pt_messages.specs.Cuts.{number_by, number_in}

digits : IsNumeralModel (λ ds. all_ascii_digits ds ≡ true) (digits_value 10)
digits = numerals_by_value (λ ds. all_ascii_digits ds ≡ true) tells_all_ascii_digits

all_true : (a b c : Bool) → a ≡ true → b ≡ true → c ≡ true → (a && (b && c)) ≡ true
all_true a b c p q r = rw (p, q, r) refl

parts_true : (a b c : Bool) → (a && (b && c)) ≡ true → (a ≡ true) × (b ≡ true) × (c ≡ true)
parts_true true true true is = (refl, refl, refl)
parts_true true true false is = absurd (cc)
parts_true true false c is = absurd (cc)
parts_true false b c is = absurd (cc)

number_yes : (ds : List ℕ) → IsNumeral 10 ds → digits_value 10 ds < 2 ^ 64 → Some (digits_value 10 ds) ≡ number_by ds
number_yes ds (some, all) small =
    sym (ap (λ (b : Bool). cond b (Some (digits_value 10 ds)) None)
    (all_true (nat_lt 0 (length ds)) (all_ascii_digits ds) (nat_lt (digits_value 10 ds) (2 ^ 64)) (lt-ltb 0 (length ds) some) (digits.from ds all)
    (lt-ltb (digits_value 10 ds) (2 ^ 64) small)))

number_no : (ds : List ℕ) → ¬ (IsNumeral 10 ds × (digits_value 10 ds < 2 ^ 64)) → None ≡ number_by ds
number_no ds other = by_test (nat_lt 0 (length ds) && (all_ascii_digits ds && nat_lt (digits_value 10 ds) (2 ^ 64))) refl where
  by_test : (b : Bool) → (nat_lt 0 (length ds) && (all_ascii_digits ds && nat_lt (digits_value 10 ds) (2 ^ 64))) ≡ b
      → None ≡ cond b (Some (digits_value 10 ds)) None
  by_test true is =
      let them = parts_true (nat_lt 0 (length ds)) (all_ascii_digits ds) (nat_lt (digits_value 10 ds) (2 ^ 64)) is in
      absurd (other ((ltb-true 0 (length ds) them.0, digits.to ds them.1), ltb-true (digits_value 10 ds) (2 ^ 64) them.2))
  by_test false is = refl

-- what `parse` reads
pub number_is : {E : Type 0} (text : List ℕ) (read : Result ℕ E) → ParsesUnsigned 64 10 text read → result_ok read ≡ number_in text
number_is text (Ok number) ((numeral, small), is) = ap Some is ∙ number_yes (without_leading_plus text) numeral small
number_is text (Err why) other = number_no (without_leading_plus text) other

-- the first place among what is pointed to
places : (word : List ℕ) (words : List (Bor (List ℕ)))
    → position_or_len (λ (known : Bor (List ℕ)). bytes_eq known.now word) words
    ≡ position_or_len (λ known. bytes_eq known word) (map (λ (known : Bor (List ℕ)). known.now) words)
places word [] = refl
places word (known ∷ words) = ap (λ (n : ℕ). cond (not (bytes_eq known.now word)) (1 + n) 0) (places word words)

pub place_is : (word : List ℕ) (words : List (Bor (List ℕ)))
    → position (λ (known : Bor (List ℕ)). bytes_eq known.now word) words
    ≡ position (λ known. bytes_eq known word) (map (λ (known : Bor (List ℕ)). known.now) words)
place_is word words =
    ap (λ (n : ℕ). cond (nat_lt n (length words)) (Some n) None) (places word words)
    ∙ ap (λ (m : ℕ). cond (nat_lt (position_or_len (λ known. bytes_eq known word) (map (λ (known : Bor (List ℕ)). known.now) words)) m)
    (Some (position_or_len (λ known. bytes_eq known word) (map (λ (known : Bor (List ℕ)). known.now) words))) None)
    (sym (length-map words (λ (known : Bor (List ℕ)). known.now)))

-- what isn't UTF-8 is tested so
pub not_utf8 : (bytes : List ℕ) → ¬ (IsUtf8 bytes) → is_utf8 bytes ≡ false
not_utf8 bytes other = by_test (is_utf8 bytes) refl where
  by_test : (b : Bool) → is_utf8 bytes ≡ b → is_utf8 bytes ≡ false
  by_test true is = absurd (other (IsUtf8-from_is_utf8 bytes is))
  by_test false is = is
