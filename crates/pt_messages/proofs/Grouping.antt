-- Digits in threes, and two digits of a number.
use Rattle.std.proofs.Common.{◌≡◌, ◌∙◌, ◌⊎◌, ⊎_elim, ℕ, ◌/◌, ◌%◌, ◌-◌, ◌<◌, ◌≤◌, ◌^◌, List, [], ◌∷◌, ◌++◌, append_assoc, arith, false, length, sym, true}
use Rattle.std.proofs.Math.Seq.{get_or-append_seam}
use Rattle.std.proofs.lemmas.Bool.{cases_lt}
use Rattle.std.proofs.lemmas.Bool.Decides.{nat_tests}
use Rattle.std.proofs.lemmas.Fmt.{IsAscii-decimal, decimal_digit, decimal_step}
use Rattle.std.proofs.lemmas.Str.{encode_ascii}
use Rattle.std.proofs.Math.Utf8.{encode}
use Rattle.std.specs.Fmt.{char_count, format_spec, padded_integral}
use Rattle.std.specs.Prelude.{decimal, nat_lt, ◌==◌, ◌&&◌}
use Rattle.pt_messages.specs.Numbers.{grouped, two_digits, with_commas}

-- a digit is one byte
pub digit_is_byte : (before rest : List ℕ) (c n : ℕ) → n < 2 ^ 64 → before ++ (c ∷ rest) ≡ decimal n → encode c ≡ c ∷ []
digit_is_byte before rest c n small e = encode_ascii c
    (rw (← get_or-append_seam before c rest 0, e) (IsAscii-decimal n small (length before)))

-- no comma stands before so many digits
no_comma : (left : ℕ) → (left ≤ 0) ⊎ ((left % 3 ≡ 0) → ⊥) → (nat_lt 0 left && (left % 3 == 0)) ≡ false
no_comma left none = ⊎_elim (λ (end : left ≤ 0). grind (arith, nat_tests)) (λ (other : (left % 3 ≡ 0) → ⊥). grind (arith, nat_tests)) none

-- one digit more is written
module _ (n : ℕ) (small : n < 2 ^ 64) (yielded text after : List ℕ) (c left : ℕ)
    (before : (rest : List ℕ) → yielded ++ rest ≡ decimal n → (text ++ with_commas rest ≡ grouped n) × (left ≡ length rest))
    (rest : List ℕ) (e : (yielded ++ c ∷ []) ++ rest ≡ decimal n) where
  whole : yielded ++ (c ∷ rest) ≡ decimal n
  whole = sym (append_assoc yielded (c ∷ []) rest) ∙ e

  fewer : left - 1 ≡ length rest
  fewer = omega (arith, (before (c ∷ rest) whole).1)

  -- with no comma behind it
  pub after_digit : after ≡ text ++ encode c → (left - 1 ≤ 0) ⊎ (((left - 1) % 3 ≡ 0) → ⊥)
      → (after ++ with_commas rest ≡ grouped n) × (left - 1 ≡ length rest)
  after_digit put none =
      let test : (nat_lt 0 (length rest) && (length rest % 3 == 0)) ≡ false = rw (← fewer) (no_comma (left - 1) none) in
      let all = rw test at ((before (c ∷ rest) whole).0) in
      (rw (put, digit_is_byte yielded rest c n small whole) (append_assoc text (c ∷ []) (with_commas rest) ∙ all), fewer)

  -- with a comma behind it
  pub after_comma : after ≡ (text ++ encode c) ++ 44 ∷ [] → (0 < left - 1) → (left - 1) % 3 ≡ 0
      → (after ++ with_commas rest ≡ grouped n) × (left - 1 ≡ length rest)
  after_comma put some threes =
      let test : (nat_lt 0 (length rest) && (length rest % 3 == 0)) ≡ true = rw (← fewer) (grind (arith, nat_tests)) in
      let all = rw test at ((before (c ∷ rest) whole).0) in (
        rw (put, digit_is_byte yielded rest c n small whole)
            (append_assoc (text ++ c ∷ []) (44 ∷ []) (with_commas rest) ∙ append_assoc text (c ∷ []) (44 ∷ with_commas rest) ∙ all),
        fewer,
      )

-- what `{:02}` writes of a number below 100
pub two_digits_written : (n : ℕ) → n < 100 → padded_integral (format_spec 32 0 4 2 18446744073709551615) false [] (decimal n) ≡ two_digits n
unfolding padded_integral char_count
two_digits_written n small = ⊎_elim
    (λ one. let high : n / 10 ≡ 0 = omega arith in let low : n % 10 ≡ n = omega arith in rw (decimal_digit n one, high, low))
    (λ two. let high : n / 10 < 10 = omega arith in let fits : n < 2 ^ 64 = omega arith in rw (decimal_step n two fits, decimal_digit (n / 10) high))
    (cases_lt n 10)
