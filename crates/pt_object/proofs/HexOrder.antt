-- Digests in order have their texts in hex in order.
use Rattle.std.proofs.Common.{◌≡◌, ℕ, zero, suc, ◌/◌, ◌%◌, ◌<◌, List, [], ◌∷◌, refl, sym, ◌∙◌, ap, arith, inl, inr}
use Rattle.std.specs.Prelude.{slice_index, Ok}
use Rattle.std.specs.declared.cmp.Ordering.{Ordering}
use Rattle.std.specs.declared.cmp.Ordering.TheVariants.{Less, Equal, Greater}
use Rattle.std.specs.Ordering.{nat_cmp, ordering_then}
use Rattle.std.specs.Cmp.{nat_cmp_is}
use Rattle.std.specs.Cmp.Lexicographic.{slice_cmp}
use Rattle.std.proofs.lemmas.Bool.{cases_lt}
use Rattle.hex.specs.Hex.{IsBytes, decode_of, encode_lower, encode_with, lower_digits}
use Rattle.hex.proofs.HexLemmas.{decode_of-encode_lower}

less : (x y : ℕ) → x < y → nat_cmp x y ≡ Less
less x y h = sym (nat_cmp_is x y Less h)

equal : (x y : ℕ) → x ≡ y → nat_cmp x y ≡ Equal
equal x y h = sym (nat_cmp_is x y Equal h)

greater : (x y : ℕ) → y < x → nat_cmp x y ≡ Greater
greater x y h = sym (nat_cmp_is x y Greater h)

abbrev digit : ℕ → ℕ
digit i = slice_index lower_digits i

-- each digit is below the next
next : (i : ℕ) → i < 15 → digit i < digit (suc i)
next zero h = omega arith
next (suc zero) h = omega arith
next (suc (suc zero)) h = omega arith
next (suc (suc (suc zero))) h = omega arith
next (suc (suc (suc (suc zero)))) h = omega arith
next (suc (suc (suc (suc (suc zero))))) h = omega arith
next (suc (suc (suc (suc (suc (suc zero)))))) h = omega arith
next (suc (suc (suc (suc (suc (suc (suc zero))))))) h = omega arith
next (suc (suc (suc (suc (suc (suc (suc (suc zero)))))))) h = omega arith
next (suc (suc (suc (suc (suc (suc (suc (suc (suc zero))))))))) h = omega arith
next (suc (suc (suc (suc (suc (suc (suc (suc (suc (suc zero)))))))))) h = omega arith
next (suc (suc (suc (suc (suc (suc (suc (suc (suc (suc (suc zero))))))))))) h = omega arith
next (suc (suc (suc (suc (suc (suc (suc (suc (suc (suc (suc (suc zero)))))))))))) h = omega arith
next (suc (suc (suc (suc (suc (suc (suc (suc (suc (suc (suc (suc (suc zero))))))))))))) h = omega arith
next (suc (suc (suc (suc (suc (suc (suc (suc (suc (suc (suc (suc (suc (suc zero)))))))))))))) h = omega arith
next (suc (suc (suc (suc (suc (suc (suc (suc (suc (suc (suc (suc (suc (suc (suc i))))))))))))))) h = absurd (omega arith)

rising : (i j : ℕ) → i < j → j < 16 → digit i < digit j
rising i zero h below = absurd (omega arith)
rising i (suc j) h below = elim (cases_lt i j) [
  | inl lower ↦ omega (arith, rising i j lower (omega arith), next j (omega arith))
  | inr from ↦ let same : i ≡ j = omega arith in let one = ap digit same in omega (arith, next j (omega arith))
]

-- two digits decide as their byte does
byte_less : (x y : ℕ) (o : Ordering) → x < 256 → y < 256 → x < y
    → ordering_then (nat_cmp (digit (x / 16)) (digit (y / 16))) (ordering_then (nat_cmp (digit (x % 16)) (digit (y % 16))) o) ≡ Less
byte_less x y o in_x in_y h = elim (cases_lt (x / 16) (y / 16)) [
  | inl lower ↦ ap (λ (c : Ordering). ordering_then c (ordering_then (nat_cmp (digit (x % 16)) (digit (y % 16))) o))
      (less _ _ (rising (x / 16) (y / 16) lower (omega arith)))
  | inr from ↦
      let high : x / 16 ≡ y / 16 = omega arith in
      let low : x % 16 < y % 16 = omega arith in
      ap (λ (c : Ordering). ordering_then c (ordering_then (nat_cmp (digit (x % 16)) (digit (y % 16))) o)) (equal _ _ (ap digit high))
      ∙ ap (λ (c : Ordering). ordering_then c o) (less _ _ (rising (x % 16) (y % 16) low (omega arith)))
]

tail : (x : ℕ) (xs : List ℕ) → IsBytes (x ∷ xs) → IsBytes xs
tail x xs h i = h (suc i)

pub hex_less : (a b : List ℕ) → IsBytes a → IsBytes b → slice_cmp nat_cmp a b ≡ Less → slice_cmp nat_cmp (encode_lower a) (encode_lower b) ≡ Less
unfolding encode_with
hex_less [] [] in_a in_b h = absurd (cc)
hex_less [] (y ∷ b) in_a in_b h = refl
hex_less (x ∷ a) [] in_a in_b h = absurd (cc)
hex_less (x ∷ a) (y ∷ b) in_a in_b h =
    let rest = hex_less a b (tail x a in_a) (tail y b in_b) in
    elim (cases_lt x y) [
      | inl lower ↦ byte_less x y (slice_cmp nat_cmp (encode_lower a) (encode_lower b)) (in_a 0) (in_b 0) lower
      | inr from ↦ elim (cases_lt y x) [
        | inl higher ↦ let other : ordering_then (nat_cmp x y) (slice_cmp nat_cmp a b)
            ≡ Greater = ap (λ (c : Ordering). ordering_then c (slice_cmp nat_cmp a b)) (greater x y higher) in absurd (cc)
        | inr to ↦
            let same : x ≡ y = omega arith in
            let later : slice_cmp nat_cmp a b ≡ Less = sym (ap (λ (c : Ordering). ordering_then c (slice_cmp nat_cmp a b)) (equal x y same)) ∙ h in
            ap (λ (c : Ordering). ordering_then c (ordering_then (nat_cmp (digit (x % 16)) (digit (y % 16)))
            (slice_cmp nat_cmp (encode_lower a) (encode_lower b)))) (equal _ _ (ap (λ (n : ℕ). digit (n / 16)) same))
            ∙ ap (λ (c : Ordering). ordering_then c (slice_cmp nat_cmp (encode_lower a) (encode_lower b))) (equal _ _ (ap (λ (n : ℕ). digit (n % 16)) same))
            ∙ rest later
      ]
    ]

pub hex_same : (a b : List ℕ) → IsBytes a → IsBytes b → encode_lower a ≡ encode_lower b → a ≡ b
hex_same a b in_a in_b same =
    let read : Ok a ≡ Ok b = sym (decode_of-encode_lower a in_a) ∙ ap decode_of same ∙ decode_of-encode_lower b in_b in
    cc
