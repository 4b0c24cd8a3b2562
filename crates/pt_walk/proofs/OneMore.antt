-- The non-shorties of a listing, as far as it was read, and of one entry more.
use Rattle.std.proofs.Common.{
  ◌≡◌,
  ℕ,
  List,
  [],
  ◌∷◌,
  ◌++◌,
  ◌+◌,
  ◌<◌,
  inl,
  inr,
  length,
  take,
  true,
  false,
  refl,
  arith,
  ◌∙◌,
  ap,
  sym,
  add-one,
  append-nil,
  suc,
  zero,
}
use Rattle.std.specs.Prelude.{Bool, cond, Option, None, Some, slice_get}
use Rattle.std.proofs.lemmas.Bool.{cases_Bool}
use Rattle.pt_tree.specs.declared.kind.Kind.{Kind}
use Rattle.pt_tree.specs.Listing.{Item}
use Rattle.pt_walk.specs.Site.{is_shorty, non_shorties, non_shorties_from}
use Rattle.pt_walk.specs.NonShorties.{non_shorty_kind, one_more, summary}

non_shorties_from-suc : (j : ℕ) (items : List Item) (i : ℕ) (x : Item) → slice_get items i ≡ Some x
    → non_shorties_from j (take (suc i) items) ≡ non_shorties_from j (take i items) ++ non_shorties_from (j + i) (x ∷ [])
non_shorties_from-suc j [] i x e = absurd (cc)
non_shorties_from-suc j (y ∷ items) zero x e =
    let same : y ≡ x = cc in
    let at : j + 0 ≡ j = omega arith in
    ap (λ (z : Item). non_shorties_from j (z ∷ [])) same ∙ sym (ap (λ k. non_shorties_from k (x ∷ [])) at)
non_shorties_from-suc j (y ∷ items) (suc i) x e =
    let at : j + 1 + i ≡ j + suc i = omega arith in
    let rest = non_shorties_from-suc (j + 1) items i x e ∙ ap (λ k. non_shorties_from (j + 1) (take i items) ++ non_shorties_from k (x ∷ [])) at in
    ap (λ l. cond (is_shorty y) l ((j, y.1) ∷ l)) rest ∙ cond_front (is_shorty y) (j, y.1) (non_shorties_from (j + 1) (take i items))
    (non_shorties_from (j + suc i) (x ∷ []))
  where
    cond_front : (b : Bool) (h : ℕ × Kind) (l m : List (ℕ × Kind)) → cond b (l ++ m) (h ∷ (l ++ m)) ≡ cond b l (h ∷ l) ++ m
    cond_front true h l m = refl
    cond_front false h l m = refl

non_shorties-more : (items : List Item) (i : ℕ) (x : Item) → slice_get items i ≡ Some x
    → non_shorties (take (i + 1) items) ≡ non_shorties (take i items) ++ non_shorties_from i (x ∷ [])
non_shorties-more items i x e =
    let at : 0 + i ≡ i = omega arith in
    ap (λ k. non_shorties (take k items)) (add-one i) ∙ non_shorties_from-suc 0 items i x e
    ∙ ap (λ k. non_shorties (take i items) ++ non_shorties_from k (x ∷ [])) at

-- a shorty adds nothing
pub non_shorties-shorty : (items : List Item) (i : ℕ) (x : Item) → slice_get items i ≡ Some x → is_shorty x ≡ true
    → non_shorties (take (i + 1) items) ≡ non_shorties (take i items)
non_shorties-shorty items i x e shorty =
    non_shorties-more items i x e ∙ ap (λ b. non_shorties (take i items) ++ cond b [] ((i, x.1) ∷ [])) shorty ∙ append-nil (non_shorties (take i items))

-- any other entry adds itself
pub non_shorties-other : (items : List Item) (i : ℕ) (x : Item) → slice_get items i ≡ Some x → is_shorty x ≡ false
    → non_shorties (take (i + 1) items) ≡ non_shorties (take i items) ++ (i, x.1) ∷ []
non_shorties-other items i x e other =
    non_shorties-more items i x e ∙ ap (λ b. non_shorties (take i items) ++ cond b [] ((i, x.1) ∷ [])) other

summary-push : (l : List (ℕ × Kind)) (i : ℕ) (kind : Kind) → summary (l ++ (i, kind) ∷ []) ≡ one_more (summary l) i kind
summary-push [] i kind = refl
summary-push (x ∷ []) i kind = refl
summary-push (x ∷ y ∷ l) i kind = refl

-- the entry is a shorty: the summary stays
pub summary-shorty : (items : List Item) (i : ℕ) → i < length items → non_shorty_kind (slice_get items i) ≡ None
    → summary (non_shorties (take (i + 1) items)) ≡ summary (non_shorties (take i items))
summary-shorty items i within h = by_entry (slice_get items i) refl h
  where
    absent : (l : List Item) (k : ℕ) → k < length l → slice_get l k ≡ None → ⊥
    absent [] k lt e = absurd (omega arith)
    absent (x ∷ l) zero lt e = cc
    absent (x ∷ l) (suc k) lt e = absent l k (omega arith) e

    by_entry : (o : Option Item) → slice_get items i ≡ o → non_shorty_kind o ≡ None
        → summary (non_shorties (take (i + 1) items)) ≡ summary (non_shorties (take i items))
    by_entry None e none = absurd (absent items i within e)
    by_entry (Some x) e none = elim (cases_Bool (is_shorty x)) [
      | inl shorty ↦ ap summary (non_shorties-shorty items i x e shorty)
      | inr apart ↦ let sure : cond (is_shorty x) None (Some x.1) ≡ Some x.1 = ap (λ b. cond b None (Some x.1)) apart in absurd (cc)
    ]

-- the entry is none: the summary counts it
pub summary-other : (items : List Item) (i : ℕ) (kind : Kind) → non_shorty_kind (slice_get items i) ≡ Some kind
    → summary (non_shorties (take (i + 1) items)) ≡ one_more (summary (non_shorties (take i items))) i kind
summary-other items i kind h = by_entry (slice_get items i) refl h
  where
    by_entry : (o : Option Item) → slice_get items i ≡ o → non_shorty_kind o ≡ Some kind
        → summary (non_shorties (take (i + 1) items)) ≡ one_more (summary (non_shorties (take i items))) i kind
    by_entry None e some = absurd (cc)
    by_entry (Some x) e some = elim (cases_Bool (is_shorty x)) [
      | inl shorty ↦ let sure : cond (is_shorty x) None (Some x.1) ≡ None = ap (λ b. cond b None (Some x.1)) shorty in absurd (cc)
      | inr apart ↦
          let sure : cond (is_shorty x) None (Some x.1) ≡ Some x.1 = ap (λ b. cond b None (Some x.1)) apart in
          let same : x.1 ≡ kind = cc in
          ap summary (non_shorties-other items i x e apart) ∙ summary-push (non_shorties (take i items)) i x.1
          ∙ ap (one_more (summary (non_shorties (take i items))) i) same
    ]
