-- The names of a place are names of directories.
use Rattle.std.proofs.Common.{
  ◌≡◌,
  ℕ,
  ◌+◌,
  ◌<◌,
  ◌≤◌,
  ◌==◌,
  Bool,
  true,
  false,
  cond,
  List,
  [],
  ◌∷◌,
  ◌++◌,
  None,
  Result,
  Err,
  length,
  take,
  subst,
  refl,
  arith,
  nat_le,
  length-append,
  length-take,
}
use Rattle.std.specs.Prelude.{All}
use Rattle.std.specs.List.{list_any}
use Rattle.std.specs.Str.{bytes_eq, is_utf8}
use Rattle.std.proofs.lemmas.Str.{IsUtf8-from_ascii, is_utf8-from_IsUtf8}
use Rattle.std.proofs.lemmas.Str.Ascii.{IsAscii-from_all}
use Rattle.std.proofs.lemmas.List.Elements.{All-append, All-cons, All-head, All-nil, All-tail, All-take, All-weaker}
use Rattle.std.proofs.lemmas.Bool.{or_left, leb-true}
use Rattle.pt_tree.specs.Name.{is_forbidden_name, name_refusal}
use Rattle.pt_tree.specs.Refusal.{Answers}
use Rattle.pt_tree.specs.declared.name.NameFault.{NameFault}
use Rattle.pt_tree.specs.declared.name.NameFault.TheVariants as fault
use Rattle.pt_name.specs.Hex.{hex_pair}
use Rattle.pt_name.specs.Place.{IsPlaceByte, IsPlaceName, digest_text, encoded_of, encoded_spelling, is_safe, last_name_of, shortened}
use Rattle.pt_name.proofs.Digits.{All-digest_text, All-hex_pair, length-digest_text}

-- a byte of places is ASCII, no NUL, no `.` and no `/`
place_ascii : (b : ℕ) → IsPlaceByte b → b < 128
place_ascii b h = grind (arith, h)

place_not_0 : (b : ℕ) → IsPlaceByte b → (b == 0) ≡ false
place_not_0 b h = grind (arith, h)

place_not_46 : (b : ℕ) → IsPlaceByte b → (b == 46) ≡ false
place_not_46 b h = grind (arith, h)

place_not_47 : (b : ℕ) → IsPlaceByte b → (b == 47) ≡ false
place_not_47 b h = grind (arith, h)

-- bytes of places hold no other byte
none_is : (c : ℕ) (bytes : List ℕ) → ((b : ℕ) → IsPlaceByte b → (b == c) ≡ false) → All IsPlaceByte bytes → list_any (λ b. b == c) bytes ≡ false
none_is c [] other h = refl
none_is c (b ∷ bytes) other h = rw (other b (All-head IsPlaceByte b bytes h)) (none_is c bytes other (All-tail IsPlaceByte b bytes h))

-- a text that doesn't begin with `.` isn't a text that does
not_dotted : (bytes : List ℕ) (more : List ℕ) → 0 < length bytes → All IsPlaceByte bytes → bytes_eq bytes (46 ∷ more) ≡ false
not_dotted [] more some h = absurd (omega arith)
not_dotted (b ∷ bytes) more some h = rw (place_not_46 b (All-head IsPlaceByte b bytes h)) refl

-- none of the four things that are forbidden
none_forbidden : (bytes : List ℕ) → 0 < length bytes → All IsPlaceByte bytes → is_forbidden_name bytes ≡ false
none_forbidden bytes some h =
    rw (none_is 47 bytes place_not_47 h, none_is 0 bytes place_not_0 h, not_dotted bytes [] some h, not_dotted bytes (46 ∷ []) some h) refl

-- the tests on a name, one by one
all_tests : (bytes : List ℕ) → 0 < length bytes → length bytes ≤ 255 → is_utf8 bytes ≡ true → is_forbidden_name bytes ≡ false → name_refusal bytes ≡ None
all_tests bytes some bound text good = grind (arith, some, bound, text, good)

-- a name of a place is a name
pub place_name : (bytes : List ℕ) → IsPlaceName bytes → name_refusal bytes ≡ None
place_name bytes h =
    let ascii = IsAscii-from_all bytes (All-weaker IsPlaceByte (λ b. b < 128) place_ascii bytes h.safe) in
    all_tests bytes h.some h.bound (is_utf8-from_IsUtf8 bytes (IsUtf8-from_ascii bytes ascii)) (none_forbidden bytes h.some h.safe)

-- a spelled byte has bytes of places
All-spelling : (byte : ℕ) → byte < 256 → All IsPlaceByte (encoded_spelling byte)
All-spelling byte small = go (is_safe byte) refl
  where
    go : (t : Bool) → is_safe byte ≡ t → All IsPlaceByte (cond t (byte ∷ []) (37 ∷ hex_pair byte))
    go true e =
        let safe : IsPlaceByte byte = or_left (is_safe byte) (byte == 37) e in
        All-cons IsPlaceByte byte [] safe (All-nil IsPlaceByte)
    go false e = All-cons IsPlaceByte 37 (hex_pair byte) refl (All-hex_pair byte small)

-- so has the encoding
All-encoded : (id : List ℕ) → All (λ b. b < 256) id → All IsPlaceByte (encoded_of id)
All-encoded [] h = All-nil IsPlaceByte
All-encoded (b ∷ id) h =
    All-append IsPlaceByte (encoded_spelling b) (encoded_of id) (All-spelling b (All-head (λ x. x < 256) b id h))
    (All-encoded id (All-tail (λ x. x < 256) b id h))

-- which isn't empty
pub some_spelled : (byte : ℕ) → 0 < length (encoded_spelling byte)
some_spelled byte = go (is_safe byte)
  where
    go : (t : Bool) → 0 < length (cond t (byte ∷ []) (37 ∷ hex_pair byte))
    go true = omega arith
    go false = omega arith

some_encoded : (id : List ℕ) → 0 < length id → 0 < length (encoded_of id)
some_encoded [] h = absurd (omega arith)
some_encoded (b ∷ id) h = let s = some_spelled b in simp length-append (omega arith)

-- a front is no longer than it may be
length-take_bound : (n : ℕ) (xs : List ℕ) → length (take n xs) ≤ n
length-take_bound n xs = simp length-take (omega arith)

-- the last name is a name of a place
shortened_name : (encoding digits : List ℕ) → 0 < length encoding → All IsPlaceByte encoding → length digits ≡ 64 → All IsPlaceByte digits
    → IsPlaceName (shortened encoding digits)
shortened_name encoding digits some h n d = go (nat_le (length encoding) 100) refl
  where
    go : (t : Bool) → nat_le (length encoding) 100 ≡ t → IsPlaceName (cond t encoding (take 100 encoding ++ 45 ∷ digits))
    go true e =
        let short : length encoding ≤ 100 = leb-true (length encoding) 100 e in
        record { some = some; bound = omega arith; safe = h }
    go false e =
        let l : length (take 100 encoding ++ 45 ∷ digits) ≡ length (take 100 encoding) + length (45 ∷ digits) = length-append (take 100 encoding) (45 ∷ digits)
        in
        let m : length (take 100 encoding) ≤ 100 = length-take_bound 100 encoding in
        record {
          some = omega arith;
          bound = omega arith;
          safe = All-append IsPlaceByte (take 100 encoding) (45 ∷ digits) (All-take IsPlaceByte 100 encoding h) (All-cons IsPlaceByte 45 digits refl d);
        }

pub IsPlaceName-last : (id : List ℕ) → 0 < length id → All (λ b. b < 256) id → IsPlaceName (last_name_of id)
IsPlaceName-last id some h =
    shortened_name (encoded_of id) (digest_text id) (some_encoded id some) (All-encoded id h) (length-digest_text id) (All-digest_text id)

-- so the only refusal of one is want of memory
pub only_memory : {T : Type 0} (bytes : List ℕ) (f : NameFault) (P : T → Type 0) → IsPlaceName bytes
    → Answers (name_refusal bytes) fault.Memory (Err f) P → f ≡ fault.Memory
only_memory {T} bytes f P h answers =
    let r : Result T NameFault = Err f in
    subst (λ o. Answers o fault.Memory r P) (place_name bytes h) answers
