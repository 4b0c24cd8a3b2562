-- Characters as they are shown.
use Rattle.std.proofs.Common.{◌≡◌, ◌∙◌, ℕ, ◌+◌, ◌<◌, ◌^◌, Bool, false, List, [], ◌∷◌, ◌++◌, add-one, append_assoc, arith, drop, get_or, length, sym}
use Rattle.std.proofs.Math.ListN.{length-append}
use Rattle.std.proofs.Math.Nat.{min-eq_left}
use Rattle.std.proofs.Math.Seq.{drop-cons}
use Rattle.std.proofs.Math.Utf8.{encode, encodes}
use Rattle.std.proofs.lemmas.Str.{length-encode}
use Rattle.std.specs.Char.{len_utf8}
use Rattle.std.specs.List.{list_any}
use Rattle.std.specs.Prelude.{◌&&◌, min, nat_le, nat_lt}
use Rattle.std.specs.Str.{chars}
use Rattle.pt_messages.specs.Escaped.{escaped, escaped_from, shown_char}

-- what passes no test at this place passes one behind it, if any
pub past_one : {X : Type 0} (test : X → Bool) (xs : List X) (i : ℕ) (d : X) → i < length xs → test (get_or xs i d) ≡ false
    → list_any test (drop (i + 1) xs) ≡ list_any test (drop i xs)
past_one test xs i d small none = rw (add-one, drop-cons xs i d small, none)

-- one character more is shown
module _ (text : List ℕ) (fits : length text < 2 ^ 64) (yielded shown after : List ℕ) (begin end at c : ℕ)
    (before : (rest : List ℕ) → yielded ++ rest ≡ chars text
    → (shown ++ escaped_from begin end at rest ≡ escaped text) × (at + length (encodes rest) ≡ length text))
    (rest : List ℕ) (e : (yielded ++ c ∷ []) ++ rest ≡ chars text) where
  whole : yielded ++ (c ∷ rest) ≡ chars text
  whole = sym (append_assoc yielded (c ∷ []) rest) ∙ e

  one_more : length (encodes (c ∷ rest)) ≡ len_utf8 c + length (encodes rest)
  one_more = rw (length-append (encode c) (encodes rest), length-encode c)

  there : min (at + len_utf8 c) 18446744073709551615 ≡ at + len_utf8 c
  there = min-eq_left (omega (arith, one_more, (before (c ∷ rest) whole).1))

  pub after_char : after ≡ shown ++ shown_char (nat_le begin at && nat_lt at end) c
      → (after ++ escaped_from begin end (min (at + len_utf8 c) 18446744073709551615) rest ≡ escaped text)
      × (min (at + len_utf8 c) 18446744073709551615 + length (encodes rest) ≡ length text)
  after_char put = rw (there, put) (
    append_assoc shown (shown_char (nat_le begin at && nat_lt at end) c) (escaped_from begin end (at + len_utf8 c) rest)
        ∙ (before (c ∷ rest) whole).0,
    omega (arith, one_more, (before (c ∷ rest) whole).1),
  )
