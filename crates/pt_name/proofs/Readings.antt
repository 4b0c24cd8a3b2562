-- The relation of a text to what it reads, and the same as a function.
use Rattle.std.proofs.Common.{
  ◌≡◌,
  ◌≢◌,
  ℕ,
  ◌≤◌,
  ◌==◌,
  inl,
  inr,
  Bool,
  true,
  false,
  cond,
  List,
  [],
  ◌∷◌,
  ◌++◌,
  Option,
  Some,
  None,
  option_map,
  length,
  refl,
  sym,
  ap,
  ◌∙◌,
  subst,
  arith,
  append_assoc,
  append-nil,
  nat_eq,
  nat_le,
  ◌&&◌,
  ◌||◌,
}
use Rattle.std.proofs.lemmas.Bool.{and_parts, cases_Bool, cases_eq, eqb-true, leb-true, or_cases}
use Rattle.std.proofs.lemmas.Bool.Decides.{eqb_tells}
use Rattle.pt_name.specs.Reading.{IsSpelling, Reads, before, hex_value, read_character, reading_of, stands_for}

-- what `=`, `+` and `,` stand for, and that `^` stands for nothing
stands_61 : (byte : ℕ) → stands_for 61 byte ≡ true → byte ≡ 47
stands_61 byte h = grind (arith, h)

stands_43 : (byte : ℕ) → stands_for 43 byte ≡ true → byte ≡ 58
stands_43 byte h = grind (arith, h)

stands_44 : (byte : ℕ) → stands_for 44 byte ≡ true → byte ≡ 46
stands_44 byte h = grind (arith, h)

-- the second of two, where it isn't the first
second_of : (character x y : ℕ) → (character == x || character == y) ≡ true → character ≢ x → character ≡ y
second_of character x y h other = elim (or_cases (character == x) (character == y) h) [
  | inl e ↦ absurd (other (eqb-true character x e))
  | inr e ↦ eqb-true character y e
]

-- a test that passed after another
passed : (b x : Bool) → cond b false x ≡ true → x ≡ true
passed true x h = cc h
passed false x h = h

-- a plain byte is what stands for it
plain_only : (character byte : ℕ) (b : Bool) → cond b false (nat_le 33 byte && nat_le byte 126 && character == byte) ≡ true
    → (byte ≡ character) × (33 ≤ character) × (character ≤ 126)
plain_only character byte b h =
    let all = and_parts (nat_le 33 byte && nat_le byte 126) (character == byte) (passed b _ h) in
    let range = and_parts (nat_le 33 byte) (nat_le byte 126) all.0 in
    let same : character ≡ byte = eqb-true character byte all.1 in
    let low : 33 ≤ byte = leb-true 33 byte range.0 in
    let high : byte ≤ 126 = leb-true byte 126 range.1 in
    (sym same, omega arith, omega arith)

-- every other character stands for itself
stands_itself : (character byte : ℕ) → character ≢ 61 → character ≢ 43 → character ≢ 44 → stands_for character byte ≡ true
    → (byte ≡ character) × (33 ≤ character) × (character ≤ 126)
stands_itself character byte a b c h = elim (eqb_tells byte 47) [
  | inl e ↦
      let same : character ≡ 47 = second_of character 61 47 (rw e.0 at h) a in
      (e.1 ∙ sym same, omega arith, omega arith)
  | inr slash ↦ elim (eqb_tells byte 58) [
    | inl e ↦
        let same : character ≡ 58 = second_of character 43 58 (rw (slash.0, e.0) at h) b in
        (e.1 ∙ sym same, omega arith, omega arith)
    | inr colon ↦ elim (eqb_tells byte 46) [
      | inl e ↦
          let same : character ≡ 46 = second_of character 44 46 (rw (slash.0, colon.0, e.0) at h) c in
          (e.1 ∙ sym same, omega arith, omega arith)
      | inr dot ↦ plain_only character byte _ (rw (slash.0, colon.0, dot.0) at h)
    ]
  ]
]

caret_stands : (byte : ℕ) → stands_for 94 byte ≡ true → ⊥
caret_stands byte h = grind (arith, h)

-- a character that stands for itself is read as itself
read_itself : (character : ℕ) → character ≢ 61 → character ≢ 43 → character ≢ 44 → character ≢ 94 → 33 ≤ character → character ≤ 126
    → read_character character ≡ Some character
read_itself character a b c d low high = grind (arith, a, b, c, d, low, high)

-- a character that stands for a byte is read as it
character_read : (character byte : ℕ) → stands_for character byte ≡ true → read_character character ≡ Some byte
character_read character byte h = elim (cases_eq character 61) [
  | inl e ↦ rw e (sym (ap Some (stands_61 byte (rw e at h))))
  | inr a ↦ elim (cases_eq character 43) [
    | inl e ↦ rw e (sym (ap Some (stands_43 byte (rw e at h))))
    | inr b ↦ elim (cases_eq character 44) [
      | inl e ↦ rw e (sym (ap Some (stands_44 byte (rw e at h))))
      | inr c ↦ elim (cases_eq character 94) [
        | inl e ↦ absurd (caret_stands byte (rw e at h))
        | inr d ↦
            let p = stands_itself character byte a b c h in
            read_itself character a b c d p.1 p.2 ∙ sym (ap Some p.0)
      ]
    ]
  ]
]

-- and stands for what it is read as
character_stands : (character byte : ℕ) → read_character character ≡ Some byte → stands_for character byte ≡ true
character_stands character byte h = grind (arith, h)

-- what stands for a byte is no `^`
no_caret : (character byte : ℕ) → stands_for character byte ≡ true → (character == 94) ≡ false
no_caret character byte h = elim (eqb_tells character 94) [
  | inl e ↦ absurd (caret_stands byte (rw e.1 at h))
  | inr d ↦ d.0
]

-- one character, and the rest
one_character : (a : ℕ) (rest : List ℕ) → (a == 94) ≡ false → reading_of (a ∷ rest) ≡ before (read_character a) (reading_of rest)
one_character a [] e = refl
one_character a (b ∷ []) e = refl
one_character a (b ∷ c ∷ rest) e = rw e refl

-- a spelling at the front is read
spelling_read : (byte : ℕ) (piece rest : List ℕ) → IsSpelling byte piece → reading_of (piece ++ rest) ≡ before (Some byte) (reading_of rest)
spelling_read byte [] rest h = absurd h
spelling_read byte (a ∷ []) rest h =
    one_character a rest (no_caret a byte h) ∙ ap (λ o. before o (reading_of rest)) (character_read a byte h)
spelling_read byte (a ∷ b ∷ []) rest h = absurd h
spelling_read byte (a ∷ b ∷ c ∷ []) rest h =
    ap (λ x. reading_of (x ∷ b ∷ c ∷ rest)) h.0 ∙ ap (λ o. before o (reading_of rest)) h.1
spelling_read byte (a ∷ b ∷ c ∷ d ∷ more) rest h = absurd h

-- what a text reads is its reading
pub reading_from_Reads : (text bytes : List ℕ) → Reads text bytes → reading_of text ≡ Some bytes
reading_from_Reads text [] h = ap reading_of h
reading_from_Reads text (byte ∷ bytes) h =
    ap reading_of h.3 ∙ spelling_read byte h.0 h.1 h.2 ∙ ap (before (Some byte)) (reading_from_Reads h.1 bytes h.4)

-- the parts of what was read
before_parts : (o : Option ℕ) (r : Option (List ℕ)) (bytes : List ℕ) → before o r ≡ Some bytes
    → (byte : ℕ) × (rest : List ℕ) × (o ≡ Some byte) × (r ≡ Some rest) × (byte ∷ rest ≡ bytes)
before_parts None r bytes h = cc h
before_parts (Some byte) None bytes h = cc h
before_parts (Some byte) (Some rest) bytes h = (byte, rest, refl, refl, cc h)

-- a first piece, and what the rest reads
first_piece : (byte : ℕ) (rest bytes piece after text : List ℕ) → byte ∷ rest ≡ bytes → IsSpelling byte piece → text ≡ piece ++ after
    → Reads after rest → Reads text bytes
first_piece byte rest bytes piece after text e h s r = subst (Reads text) e (piece, after, h, s, r)

-- a reading is read
pub Reads_from_reading : (text bytes : List ℕ) → reading_of text ≡ Some bytes → Reads text bytes
Reads_from_reading [] bytes h = let e : [] ≡ bytes = cc h in subst (Reads []) e refl
Reads_from_reading (a ∷ []) bytes h =
    let p = before_parts (read_character a) (Some []) bytes h in
    first_piece p.0 p.1 bytes (a ∷ []) [] (a ∷ []) p.4 (character_stands a p.0 p.2) refl (Reads_from_reading [] p.1 p.3)
Reads_from_reading (a ∷ b ∷ []) bytes h =
    let p = before_parts (read_character a) (reading_of (b ∷ [])) bytes h in
    first_piece p.0 p.1 bytes (a ∷ []) (b ∷ []) (a ∷ b ∷ []) p.4 (character_stands a p.0 p.2) refl (Reads_from_reading (b ∷ []) p.1 p.3)
Reads_from_reading (a ∷ b ∷ c ∷ rest) bytes h = elim (cases_Bool (nat_eq a 94)) [
  | inl caret ↦
      let p = before_parts (hex_value b c) (reading_of rest) bytes (rw caret at h) in
      let is_caret : a ≡ 94 = eqb-true a 94 caret in
      first_piece p.0 p.1 bytes (a ∷ b ∷ c ∷ []) rest (a ∷ b ∷ c ∷ rest) p.4 (is_caret, p.2) refl (Reads_from_reading rest p.1 p.3)
  | inr other ↦
      let p = before_parts (read_character a) (reading_of (b ∷ c ∷ rest)) bytes (sym (one_character a (b ∷ c ∷ rest) other) ∙ h) in
      first_piece p.0 p.1 bytes (a ∷ []) (b ∷ c ∷ rest) (a ∷ b ∷ c ∷ rest) p.4 (character_stands a p.0 p.2) refl (Reads_from_reading (b ∷ c ∷ rest) p.1 p.3)
]

-- one more byte before what the rest reads
pub one_more : (bytes : List ℕ) (byte : ℕ) (rest : Option (List ℕ))
    → option_map (λ ys. (bytes ++ byte ∷ []) ++ ys) rest ≡ option_map (λ ys. bytes ++ ys) (before (Some byte) rest)
one_more bytes byte None = refl
one_more bytes byte (Some ys) = ap Some (append_assoc bytes (byte ∷ []) ys)

-- a text without a reading reads nothing
pub nothing_read : (text : List ℕ) → reading_of text ≡ None → (bytes : List ℕ) → Reads text bytes → ⊥
nothing_read text none bytes h = let e : None ≡ Some bytes = sym none ∙ reading_from_Reads text bytes h in cc e

-- where nothing is left, the bytes so far are what was read
pub all_read : (text bytes rest : List ℕ) → option_map (λ ys. bytes ++ ys) (reading_of rest) ≡ reading_of text → length rest ≡ 0 → reading_of text ≡ Some bytes
all_read text bytes [] e none = sym e ∙ ap Some (append-nil bytes)
all_read text bytes (a ∷ rest) e none = absurd (omega arith)
