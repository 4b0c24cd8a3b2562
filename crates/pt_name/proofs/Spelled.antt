-- What is cleaned reads back.
use Rattle.std.proofs.Common.{
  ◌≡◌,
  ℕ,
  ◌+◌,
  ◌*◌,
  ◌/◌,
  ◌%◌,
  ◌<◌,
  ◌==◌,
  ◌||◌,
  Bool,
  true,
  false,
  cond,
  List,
  [],
  ◌∷◌,
  Some,
  refl,
  sym,
  ap,
  subst,
  arith,
  nat_lt,
  slice_index,
  inl,
  inr,
}
use Rattle.std.specs.Prelude.{All}
use Rattle.std.proofs.lemmas.List.Elements.{All-head, All-tail}
use Rattle.std.proofs.lemmas.Bool.{or_parts}
use Rattle.std.proofs.lemmas.Bool.Decides.{eqb_tells}
use Rattle.hex.specs.Hex.{lower_digits}
use Rattle.hex.proofs.HexLemmas.{IsDigits-lower_digits}
use Rattle.pt_name.specs.Clean.{caret_spelling, clean_spelling, cleaned, is_reserved}
use Rattle.pt_name.specs.Reading.{IsSpelling, Reads, hex_value, stands_for}

-- two digits give their number
digits_read : (byte : ℕ) → byte < 256 → hex_value (slice_index lower_digits (byte / 16)) (slice_index lower_digits (byte % 16)) ≡ Some byte
digits_read byte small =
    let whole : 16 * (byte / 16) + byte % 16 ≡ byte = omega arith in
    rw (IsDigits-lower_digits (byte / 16) (omega arith), IsDigits-lower_digits (byte % 16) (omega arith)) (ap Some whole)

-- a plain byte stands for itself
stands_plain : (byte : ℕ) → (byte == 47) ≡ false → (byte == 58) ≡ false → (byte == 46) ≡ false
    → (nat_lt byte 33 || nat_lt 126 byte || is_reserved byte) ≡ false → stands_for byte byte ≡ true
stands_plain byte slash colon dot plain =
    let range = or_parts (nat_lt byte 33 || nat_lt 126 byte) (is_reserved byte) plain in
    let ends = or_parts (nat_lt byte 33) (nat_lt 126 byte) range.0 in
    grind (arith, slash, colon, dot, ends.0, ends.1, range.1)

-- the spelling of a byte is one of its spellings
spelled : (byte : ℕ) → byte < 256 → IsSpelling byte (clean_spelling byte)
spelled byte small = elim (eqb_tells byte 47) [
  | inl e ↦ subst (λ b. IsSpelling b (clean_spelling b)) (sym e.1) refl
  | inr slash ↦ elim (eqb_tells byte 58) [
    | inl e ↦ subst (λ b. IsSpelling b (clean_spelling b)) (sym e.1) refl
    | inr colon ↦ elim (eqb_tells byte 46) [
      | inl e ↦ subst (λ b. IsSpelling b (clean_spelling b)) (sym e.1) refl
      | inr dot ↦
          let rest : IsSpelling byte (cond (nat_lt byte 33 || nat_lt 126 byte || is_reserved byte) (caret_spelling byte) (byte ∷ [])) = go byte small slash.0
          colon.0 dot.0 (nat_lt byte 33 || nat_lt 126 byte || is_reserved byte) refl in
          rw (slash.0, colon.0, dot.0) rest
    ]
  ]
]
  where
    go : (byte : ℕ) → byte < 256 → (byte == 47) ≡ false → (byte == 58) ≡ false → (byte == 46) ≡ false → (t : Bool)
        → (nat_lt byte 33 || nat_lt 126 byte || is_reserved byte) ≡ t → IsSpelling byte (cond t (caret_spelling byte) (byte ∷ []))
    go byte small slash colon dot true e = (refl, digits_read byte small)
    go byte small slash colon dot false e = stands_plain byte slash colon dot e

-- what is cleaned reads back
pub cleaned_reads : (id : List ℕ) → All (λ byte. byte < 256) id → Reads (cleaned id) id
cleaned_reads [] h = refl
cleaned_reads (byte ∷ id) h = (
  clean_spelling byte,
  cleaned id,
  spelled byte (All-head (λ b. b < 256) byte id h),
  refl,
  cleaned_reads id (All-tail (λ b. b < 256) byte id h),
)
