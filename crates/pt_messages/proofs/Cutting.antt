-- The first characters of a line.
use Rattle.std.proofs.Common.{◌≡◌, ◌∙◌, ℕ, zero, suc, ◌-◌, ◌<◌, ◌≤◌, List, [], ◌∷◌, ◌++◌, append_assoc, arith, sym, take}
use Rattle.std.proofs.lemmas.List.{append-nil}
use Rattle.std.proofs.Math.Utf8.{encode, encodes}

-- one character more is written
pub one_more : (text rest whole : List ℕ) (c left : ℕ) → 0 < left → text ++ encodes (take left (c ∷ rest)) ≡ whole
    → (text ++ encode c) ++ encodes (take (left - 1) rest) ≡ whole
one_more text rest whole c zero some e = absurd (omega arith)
one_more text rest whole c (suc n) some e =
    let fewer : suc n - 1 ≡ n = omega arith in rw fewer (append_assoc text (encode c) (encodes (take n rest)) ∙ e)

-- none is written where no more may come
pub none_more : (text rest whole : List ℕ) (c left : ℕ) → left ≤ 0 → text ++ encodes (take left (c ∷ rest)) ≡ whole
    → text ++ encodes (take left rest) ≡ whole
none_more text rest whole c zero none e = e
none_more text rest whole c (suc n) none e = absurd (omega arith)

-- none is left
pub none_left : (text whole : List ℕ) (left : ℕ) → text ++ encodes (take left []) ≡ whole → text ≡ whole
none_left text whole zero e = sym (append-nil text) ∙ e
none_left text whole (suc n) e = sym (append-nil text) ∙ e
