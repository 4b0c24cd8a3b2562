-- What buckets have once a text was added, once one of them was divided, and once all of them were.
use Rattle.std.proofs.Common.{
  ◌≡◌,
  ◌∙◌,
  ℕ,
  zero,
  suc,
  ◌+◌,
  ◌*◌,
  ◌-◌,
  ◌/◌,
  ◌%◌,
  ◌<◌,
  ◌≤◌,
  inl,
  inr,
  Bool,
  true,
  false,
  List,
  [],
  ◌∷◌,
  ◌++◌,
  cond,
  length,
  set,
  arith,
  refl,
  ap,
  subst,
  sym,
  mod-lt,
  length-append,
  length-set,
}
use Rattle.std.specs.Prelude.{◌||◌, nat_lt, Option, Some}
use Rattle.std.specs.Global.{Vec}
use Rattle.std.specs.List.{slice_get}
use Rattle.std.specs.Str.{bytes_eq}
use Rattle.std.proofs.lemmas.Bool.{cases_eq, cases_lt, cond-false, cond-true, eq-eqb, le-ltb, lt-ltb, ltb-false, ltb-true, ne_eqb}
use Rattle.std.proofs.lemmas.Nat.{div-add-mod', mod-mul-add}
use Rattle.std.proofs.Math.Nat.{mul_assoc}
use Rattle.pt_object.proofs.Ways.{same_name}
use Rattle.pt_rehearsal.specs.Buckets.{IsHalved, bucket_of, hash_of, held_in, holds, is_held, texts_in}
use Rattle.pt_rehearsal.specs.Texts.{with_text}
use Rattle.pt_rehearsal.proofs.Packed.{holds_gone, holds_more, holds_stayed}

-- ---- one bucket in place of another, and one more

get_set : (xs : List (Vec ℕ)) (i : ℕ) (v : Vec ℕ) → i < length xs → slice_get (set xs i v) i ≡ Some v
get_set [] i v within = absurd (omega arith)
get_set (x ∷ xs) zero v within = refl
get_set (x ∷ xs) (suc i) v within = get_set xs i v (omega arith)

get_beside : (xs : List (Vec ℕ)) (i j : ℕ) (v : Vec ℕ) → (i ≡ j → ⊥) → slice_get (set xs i v) j ≡ slice_get xs j
get_beside [] i j v off = refl
get_beside (x ∷ xs) zero zero v off = absurd (off refl)
get_beside (x ∷ xs) zero (suc j) v off = refl
get_beside (x ∷ xs) (suc i) zero v off = refl
get_beside (x ∷ xs) (suc i) (suc j) v off = get_beside xs i j v (λ same. off (ap suc same))

get_before : (xs : List (Vec ℕ)) (v : Vec ℕ) (j : ℕ) → j < length xs → slice_get (xs ++ v ∷ []) j ≡ slice_get xs j
get_before [] v j within = absurd (omega arith)
get_before (x ∷ xs) v zero within = refl
get_before (x ∷ xs) v (suc j) within = get_before xs v j (omega arith)

get_last : (xs : List (Vec ℕ)) (v : Vec ℕ) → slice_get (xs ++ v ∷ []) (length xs) ≡ Some v
get_last [] v = refl
get_last (x ∷ xs) v = get_last xs v

-- ---- a text is added to its bucket

pub put_held : (base : ℕ) (old new : List (Vec ℕ)) (text : List ℕ) (i : ℕ) (b b' : Vec ℕ) → i ≡ bucket_of base (length old) (hash_of text) → i < length old
    → slice_get old i ≡ Some b
    → new ≡ set old i b' → texts_in b'.items ≡ texts_in b.items ++ text ∷ [] → is_held base new ≡ with_text text (is_held base old)
put_held base old new text i b b' at within is written more = λ k t. (one t) k
  where
    one : (t : List ℕ) → is_held base new t ≡ (bytes_eq t text || is_held base old t)
    one t = start ∙ elim (cases_eq i j) [
      | inl same ↦
          ap (λ k. held_in t (slice_get (set old i b') k)) (sym same) ∙ ap (held_in t) (get_set old i b' within) ∙ holds_more b.items b'.items text t more
          ∙ ap (λ (o : Option (Vec ℕ)). bytes_eq t text || held_in t o) (sym is ∙ ap (slice_get old) same)
      | inr off ↦ ap (held_in t) (get_beside old i j b' off) ∙ sym (ap (λ b. b || is_held base old t) (other off (bytes_eq t text) refl))
    ]
      where
        j : ℕ
        j = bucket_of base (length old) (hash_of t)

        start : is_held base new t ≡ held_in t (slice_get (set old i b') j)
        start =
            ap (λ (l : List (Vec ℕ)). is_held base l t) written
            ∙ ap (λ n. held_in t (slice_get (set old i b') (bucket_of base n (hash_of t)))) (length-set old i b')

        other : (i ≡ j → ⊥) → (s : Bool) → bytes_eq t text ≡ s → s ≡ false
        other off true same = absurd (off (at ∙ ap (λ (x : List ℕ). bucket_of base (length old) (hash_of x)) (sym (same_name t text same))))
        other off false same = refl

-- a bucket whose texts are the same takes its place
pub kept_held : (base : ℕ) (old new : List (Vec ℕ)) (i : ℕ) (b b' : Vec ℕ) → i < length old → slice_get old i ≡ Some b → new ≡ set old i b' → b'.items ≡ b.items
    → is_held base new ≡ is_held base old
kept_held base old new i b b' within is written same = λ k t. (one t) k
  where
    one : (t : List ℕ) → is_held base new t ≡ is_held base old t
    one t =
        ap (λ (l : List (Vec ℕ)). is_held base l t) written
        ∙ ap (λ n. held_in t (slice_get (set old i b') (bucket_of base n (hash_of t)))) (length-set old i b')
        ∙ elim (cases_eq i j) [
          | inl here ↦
              ap (λ k. held_in t (slice_get (set old i b') k)) (sym here) ∙ ap (held_in t) (get_set old i b' within) ∙ ap (holds t) same
              ∙ ap (held_in t) (sym is ∙ ap (slice_get old) here)
          | inr off ↦ ap (held_in t) (get_beside old i j b' off)
        ]
      where
        j : ℕ
        j = bucket_of base (length old) (hash_of t)

-- each text has a bucket, where there is one
pub bucket_within : (base count h : ℕ) → 0 < base → base ≤ count → bucket_of base count h < count
bucket_within base count h some enough = by (nat_lt (h % (2 * base)) count) refl
  where
    below : h % (2 * base) < 2 * base
    below = mod-lt h (omega arith)

    by : (s : Bool) → nat_lt (h % (2 * base)) count ≡ s → cond s (h % (2 * base)) (h % (2 * base) - base) < count
    by true less = ltb-true (h % (2 * base)) count less
    by false more = omega (arith, below)

-- the first bucket, which is empty
pub first_held : (base : ℕ) (b : Vec ℕ) → b.items ≡ [] → is_held base (b ∷ []) ≡ is_held base []
first_held base b none = λ k t. (at (bucket_of base 1 (hash_of t)) t) k
  where
    at : (j : ℕ) (t : List ℕ) → held_in t (slice_get (b ∷ []) j) ≡ false
    at zero t = ap (holds t) none
    at (suc j) t = refl

-- ---- a bucket is divided

divided : (base : ℕ) (old : List (Vec ℕ)) (next : ℕ) (b stays goes : Vec ℕ) → 0 < base → base ≤ length old → next ≡ length old - base
    → slice_get old next ≡ Some b
    → IsHalved base (length old) (texts_in b.items) (texts_in stays.items) (texts_in goes.items)
    → is_held base (set (old ++ goes ∷ []) next stays) ≡ is_held base old
divided base old next b stays goes some enough turn is halved = λ k t. (one t) k
  where
    count : ℕ
    count = length old

    new : List (Vec ℕ)
    new = set (old ++ goes ∷ []) next stays

    longer : length new ≡ count + 1
    longer = length-set (old ++ goes ∷ []) next stays ∙ length-append old (goes ∷ [])

    one : (t : List ℕ) → is_held base new t ≡ is_held base old t
    one t = ap (λ n. held_in t (slice_get new (bucket_of base n (hash_of t)))) longer ∙ elim (cases_eq place count) [
      | inl here ↦
          let to : bucket_of base (count + 1) (hash_of t) ≡ count = cond-true _ place (place - base) (lt-ltb place (count + 1) (omega arith)) ∙ here in
          let from : bucket_of base count (hash_of t) ≡ next = cond-false _ place (place - base) (le-ltb place count (omega arith)) ∙ ap (λ k. k - base) here
          ∙ sym turn in
          ap (λ k. held_in t (slice_get new k)) to
          ∙ ap (held_in t) (get_beside (old ++ goes ∷ []) next count stays (λ same. omega arith) ∙ get_last old goes)
          ∙ holds_gone base count b.items stays.items goes.items t halved (eq-eqb place count here)
          ∙ ap (held_in t) (sym is)
          ∙ ap (λ k. held_in t (slice_get old k)) (sym from)
      | inr off ↦ ap (λ c. held_in t (slice_get new (cond c place (place - base)))) (same_test off) ∙ elim (cases_eq next (bucket_of base count (hash_of t))) [
        | inl same ↦
            ap (λ k. held_in t (slice_get new k)) (sym same)
            ∙ ap (held_in t) (get_set (old ++ goes ∷ []) next stays (omega (arith, length-append old (goes ∷ []))))
            ∙ holds_stayed base count b.items stays.items goes.items t halved (ne_eqb place count off)
            ∙ ap (held_in t) (sym is)
            ∙ ap (λ k. held_in t (slice_get old k)) same
        | inr apart ↦ ap (held_in t) (get_beside (old ++ goes ∷ []) next (bucket_of base count (hash_of t)) stays apart
            ∙ get_before old goes (bucket_of base count (hash_of t)) inside)
      ]
    ]
      where
        place : ℕ
        place = hash_of t % (2 * base)

        below : place < 2 * base
        below = mod-lt (hash_of t) (omega arith)

        same_test : (place ≡ count → ⊥) → nat_lt place (count + 1) ≡ nat_lt place count
        same_test off = elim (cases_lt place count) [
          | inl less ↦ lt-ltb place (count + 1) (omega arith) ∙ sym (lt-ltb place count less)
          | inr more ↦ le-ltb place (count + 1) (elim (cases_eq place count) [ inl here ↦ absurd (off here) | inr other ↦ omega arith ])
              ∙ sym (le-ltb place count more)
        ]

        inside : bucket_of base count (hash_of t) < count
        inside = bucket_within base count (hash_of t) some enough

-- the same by the number of buckets
pub divided_by : (base : ℕ) (old : List (Vec ℕ)) (count next : ℕ) (b stays goes : Vec ℕ) → count ≡ length old → 0 < base → base ≤ length old
    → next ≡ count - base → slice_get old next ≡ Some b
    → IsHalved base count (texts_in b.items) (texts_in stays.items) (texts_in goes.items)
    → is_held base (set (old ++ goes ∷ []) next stays) ≡ is_held base old
divided_by base old count next b stays goes long some enough turn is halved =
    divided base old next b stays goes some enough (turn ∙ ap (λ n. n - base) long) is
    (subst (λ n. IsHalved base n (texts_in b.items) (texts_in stays.items) (texts_in goes.items)) long halved)

-- ---- all of them were divided: the base is twice as large

halves : (h m q r : ℕ) → q * (2 * m) + r ≡ h → r < 2 * m → cond (nat_lt r m) r (r - m) ≡ h % m
halves h m q r is below = by (nat_lt r m) refl
  where
    twice : q * (2 * m) ≡ (q * 2) * m
    twice = sym (mul_assoc q 2 m)

    by : (s : Bool) → nat_lt r m ≡ s → cond s r (r - m) ≡ h % m
    by true less =
        sym (mod-mul-add (q * 2) m r (ltb-true r m less)) ∙ ap (λ k. (k + r) % m) (sym twice) ∙ ap (λ k. k % m) is
    by false more =
        let least : m ≤ r = ltb-false r m more in
        let sum : (q * 2 + 1) * m + (r - m) ≡ q * (2 * m) + r = omega (arith, twice, one_more (q * 2)) in
        sym (mod-mul-add (q * 2 + 1) m (r - m) (omega arith)) ∙ ap (λ k. k % m) (sum ∙ is)
      where
        one_more : (k : ℕ) → (k + 1) * m ≡ k * m + m
        one_more k = omega arith

rebased : (base : ℕ) (bs : List (Vec ℕ)) → 0 < base → length bs ≡ 2 * base → is_held (length bs) bs ≡ is_held base bs
rebased base bs some long = λ k t. (one t) k
  where
    one : (t : List ℕ) → is_held (length bs) bs t ≡ is_held base bs t
    one t = ap (λ k. held_in t (slice_get bs k)) (wide ∙ sym narrow)
      where
        h : ℕ
        h = hash_of t

        wide : bucket_of (length bs) (length bs) h ≡ h % length bs
        wide = halves h (length bs) (h / (2 * length bs)) (h % (2 * length bs)) (div-add-mod' h (2 * length bs)) (mod-lt h (omega arith))

        below : h % (2 * base) < 2 * base
        below = mod-lt h (omega arith)

        narrow : bucket_of base (length bs) h ≡ h % length bs
        narrow =
            cond-true _ (h % (2 * base)) (h % (2 * base) - base) (lt-ltb (h % (2 * base)) (length bs) (omega (arith, below)))
            ∙ ap (λ k. h % k) (sym long)

-- the same by the number of buckets
pub rebased_by : (base count : ℕ) (bs : List (Vec ℕ)) → 0 < base → count ≡ length bs → count ≡ 2 * base → is_held count bs ≡ is_held base bs
rebased_by base count bs some long twice = ap (λ n. is_held n bs) long ∙ rebased base bs some (sym long ∙ twice)
