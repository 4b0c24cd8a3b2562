-- The number of the share that an identifier is of.
use Rattle.std.proofs.Common.{
  ◌≡◌,
  ◌<◌,
  ◌≤◌,
  ◌+◌,
  ◌*◌,
  ◌/◌,
  ◌^◌,
  ◌==◌,
  ℕ,
  Bool,
  true,
  false,
  List,
  [],
  ◌∷◌,
  arith,
  ap,
  sym,
  ◌∙◌,
  refl,
  cond,
  subst,
  nat_lt,
  inl,
  inr,
  eq-eqb,
}
use Rattle.std.specs.Prelude.{All}
use Rattle.std.specs.Str.{is_utf8}
use Rattle.std.specs.Int.{from_be_bytes, w32}
use Rattle.std.proofs.Math.Nat.{div-lt_iff_lt-mul, mul-le-mul_left}
use Rattle.std.proofs.lemmas.Bool.{and_parts, eqb-true, ltb-true, true≢false}
use Rattle.std.proofs.lemmas.List.Elements.{All-append, All-cons, All-nil}
use Rattle.std.proofs.lemmas.Str.{IsUtf8-from_is_utf8}
use lib.Utf8.{encode, encodes, next, scalar, scalar_cases, scalars}
use Rattle.sha2.specs.Sha256.{sha256}
use Rattle.pt_name.proofs.Places.{one_place}
use Rattle.pt_name.proofs.Shares.{digest_number-small}
use Rattle.pt_name.specs.Place.{place_of}
use Rattle.pt_name.specs.Share.{digest_number, share_number}
use Rattle.pt_name.specs.Tuples.{Tuples}

-- ---- the bytes of a text

top_of : {c : ℕ} → scalar c ≡ true → c < 1114112
top_of {c} h = elim (scalar_cases c h) [ inl low ↦ omega (arith, low) | inr high ↦ high.1 ]

one : {b : ℕ} (bs : List ℕ) → b < 256 → All (λ b. b < 256) bs → All (λ b. b < 256) (b ∷ bs)
one {b} bs h rest = All-cons (λ b. b < 256) b bs h rest

small_encode : (c : ℕ) → scalar c ≡ true → All (λ b. b < 256) (encode c)
unfolding encode
small_encode c h = by (nat_lt c 128) (nat_lt c 2048) (nat_lt c 65536) refl refl refl
  where
    by : (x y z : Bool) → nat_lt c 128 ≡ x → nat_lt c 2048 ≡ y → nat_lt c 65536 ≡ z
        → All (λ b. b < 256) (cond x (c ∷ []) (cond y ((192 + c / 64) ∷ next c ∷ [])
        (cond z ((224 + c / 4096) ∷ next (c / 64) ∷ next c ∷ []) ((240 + c / 262144) ∷ next (c / 4096) ∷ next (c / 64) ∷ next c ∷ []))))
    by true y z a b d = let low = ltb-true c 128 a in one [] (omega (arith, low)) (All-nil (λ b. b < 256))
    by false true z a b d = let low = ltb-true c 2048 b in one (next c ∷ []) (omega (arith, low)) (one [] (omega arith) (All-nil (λ b. b < 256)))
    by false false true a b d =
        let low = ltb-true c 65536 d in
        one (next (c / 64) ∷ next c ∷ []) (omega (arith, low)) (one (next c ∷ []) (omega arith) (one [] (omega arith) (All-nil (λ b. b < 256))))
    by false false false a b d =
        let low = top_of {c = c} h in
        one (next (c / 4096) ∷ next (c / 64) ∷ next c ∷ []) (omega (arith, low))
        (one (next (c / 64) ∷ next c ∷ []) (omega arith) (one (next c ∷ []) (omega arith) (one [] (omega arith) (All-nil (λ b. b < 256)))))

small_encodes : (cs : List ℕ) → scalars cs ≡ true → All (λ b. b < 256) (encodes cs)
small_encodes [] _ = All-nil (λ b. b < 256)
small_encodes (c ∷ cs) h =
    let parts = and_parts _ _ h in
    All-append (λ b. b < 256) _ _ (small_encode c parts.0) (small_encodes cs parts.1)

-- a text's bytes are bytes
small_text : (text : List ℕ) → is_utf8 text ≡ true → All (λ b. b < 256) text
small_text text h =
    let (cs, (ok, are)) = IsUtf8-from_is_utf8 text h in
    subst (All (λ b. b < 256)) are (small_encodes cs ok)

-- ---- numbers

-- there are so many shares
pub number_within : {count : ℕ} (id : List ℕ) → 1 ≤ count → share_number count id ≤ count
number_within {count} id some =
    let small = digest_number-small id in
    let product : count * (digest_number id + 1) ≤ count * 2 ^ 32 = mul-le-mul_left count (omega (arith, small)) in
    let below : digest_number id * count / 2 ^ 32 < count = (div-lt_iff_lt-mul (omega arith)).1 (omega (arith, product, some)) in
    omega (arith, below)

-- identifiers of one place are of one share
pub one_share : (tuples : Tuples) (count : ℕ) (a b : List ℕ) → is_utf8 a ≡ true → is_utf8 b ≡ true → place_of tuples a ≡ place_of tuples b
    → share_number count a ≡ share_number count b
unfolding digest_number
one_share tuples count a b u v same = by (share_number count a == share_number count b) refl
  where
    alike : sha256 a ≡ sha256 b → share_number count a ≡ share_number count b
    alike h = ap (λ (d : List ℕ). from_be_bytes w32 d * count / 2 ^ 32 + 1) h

    by : (t : Bool) → (share_number count a == share_number count b) ≡ t → share_number count a ≡ share_number count b
    by true h = eqb-true _ _ h
    by false h =
        alike (one_place tuples a b (small_text a u) (small_text b v) (λ e. absurd (true≢false (sym (eq-eqb _ _ (ap (share_number count) e)) ∙ h))) same).digest
