-- What the index of a list of contents tells of its items.
use Rattle.std.proofs.Common.{◌≡◌, ℕ, ◌<◌, ◌≤◌, List, [], ◌∷◌, length, get_or, refl, sym, ◌∙◌, ap, arith, zero, suc, inl, inr, true, false}
use Rattle.std.specs.Prelude.{Some, None, slice_get, slice_index, ◌⊎◌}
use Rattle.std.specs.List.{find}
use Rattle.std.specs.Option.{option_map}
use Rattle.std.specs.Ordering.{is_eq}
use Rattle.std.specs.declared.cmp.Ordering.{Ordering}
use Rattle.std.specs.declared.cmp.Ordering.TheVariants.{Less, Equal}
use Rattle.std.proofs.lemmas.Bool.{cases_lt, false_from_ne_true}
use Rattle.std.specs.Cmp.Lexicographic.{texts_ties, bytes_decides}
use Rattle.std.proofs.lemmas.Cmp.{nat_list_cmp_total, tied_itself}
use Rattle.std.proofs.lemmas.List.{get_or-map}
use Rattle.std.proofs.lemmas.Option.{slice_get_cases, slice_get_within, get_or_from_slice_get}
use Rattle.std.specs.Str.{bytes_eq}
use Rattle.pt_object.specs.Digest.{digest_cmp}
use Rattle.pt_object.specs.Contents.{digest_at, has_digest, is_noted, first_path, DigestsDiffer}
use Rattle.pt_object.specs.Index.{digest_in, IsAt, IsIndex, IsPlaceOf}
use Rattle.pt_object.specs.declared.table.contents.Content.{Content}
use Rattle.pt_object.proofs.Ways.{same_name}

pub digest_at-item : (items : List Content) (p : ℕ) (x : Content) → p < length items → digest_at items p ≡ (get_or items p x).digest
digest_at-item items p x within = get_or-map (λ (c : Content). c.digest) items p x [] within

pub compared : (items : List Content) (p : ℕ) (x : Content) (digest : List ℕ) (o : Ordering) → p < length items
    → o ≡ digest_cmp (get_or items p x).digest digest → digest_cmp (digest_at items p) digest ≡ o
compared items p x digest o within is = ap (λ (d : List ℕ). digest_cmp d digest) (digest_at-item items p x within) ∙ sym is

-- the same of the item whose position stands at a place of the index
pub compared_in : (items : List Content) (index : List ℕ) (middle p : ℕ) (x : Content) (digest : List ℕ) (o : Ordering) → IsIndex items index
    → middle < length index
    → p ≡ slice_index index middle → o ≡ digest_cmp (get_or items p x).digest digest → digest_cmp (digest_in items index middle) digest ≡ o
compared_in items index middle p x digest o ordered below at is =
    let within : p < length items = omega (arith, ordered.within middle below) in
    ap (λ (q : ℕ). digest_cmp (digest_at items q) digest) (sym at) ∙ compared items p x digest o within is

pub in_index : (items : List Content) (index : List ℕ) (middle p : ℕ) → IsIndex items index → p ≡ slice_index index middle → middle < length index
    → p < length items
in_index items index middle p ordered at below = omega (arith, ordered.within middle below)

pub same_from_equal : (x y : List ℕ) → digest_cmp x y ≡ Equal → x ≡ y
same_from_equal x y e = (bytes_decides x y).0 (texts_ties x y ∙ ap is_eq e)

pub at_from_equal : (items : List Content) (p : ℕ) (digest : List ℕ) → p < length items → digest_cmp (digest_at items p) digest ≡ Equal → IsAt items digest p
at_from_equal items p digest within e = record { within = within; same = same_from_equal (digest_at items p) digest e }

-- of no items
pub IsIndex-none : IsIndex [] []
IsIndex-none = record {
  as_long = refl;
  within = λ k h. absurd (omega arith);
  rises = λ i j below h. absurd (omega arith);
  complete = λ p h. absurd (omega arith);
}

pub DigestsDiffer-index : (items : List Content) (index : List ℕ) → IsIndex items index → DigestsDiffer items
DigestsDiffer-index items index ordered p q in_p in_q same =
    let a = ordered.complete p in_p in
    let b = ordered.complete q in_q in
    elim (cases_lt a.0 b.0) [
      | inl below ↦ absurd (apart a.0 b.0 below b.1 (ap (digest_at items) a.2 ∙ same ∙ sym (ap (digest_at items) b.2)))
      | inr from ↦ elim (cases_lt b.0 a.0) [
        | inl below ↦ absurd (apart b.0 a.0 below a.1 (ap (digest_at items) b.2 ∙ sym same ∙ sym (ap (digest_at items) a.2)))
        | inr equal ↦ let places : a.0 ≡ b.0 = omega arith in sym a.2 ∙ ap (slice_index index) places ∙ b.2
      ]
    ]
  where
    apart : (i j : ℕ) → i < j → j < length index → digest_in items index i ≡ digest_in items index j → ⊥
    apart i j below within e =
        let less : digest_cmp (digest_in items index i) (digest_in items index j) ≡ Less = ordered.rises i j below within in
        let tied : digest_cmp (digest_in items index j) (digest_in items index j) ≡ Equal = tied_itself nat_list_cmp_total (digest_in items index j) in
        let equal : digest_cmp (digest_in items index i) (digest_in items index j) ≡ Equal = ap (λ (d : List ℕ). digest_cmp d (digest_in items index j)) e
        ∙ tied in
        cc

pub at_from_get : (items : List Content) (p : ℕ) (x : Content) (digest : List ℕ) → Some x ≡ slice_get items p → bytes_eq x.digest digest ≡ true
    → IsAt items digest p
at_from_get items p x digest got same =
    let within = slice_get_within items p x (sym got) in
    record {
      within = within;
      same = digest_at-item items p x within ∙ ap (λ (c : Content). c.digest) (get_or_from_slice_get items p x x (sym got))
          ∙ same_name x.digest digest same;
    }

-- no item has a digest that has its place between others
pub none_at : (items : List Content) (index digest : List ℕ) (place p : ℕ) → IsIndex items index → IsPlaceOf items index digest place → p < length items
    → digest_at items p ≡ digest → ⊥
none_at items index digest place p ordered is_place within same =
    let k = ordered.complete p within in
    let here : digest_in items index k.0 ≡ digest = ap (digest_at items) k.2 ∙ same in
    let tied : digest_cmp (digest_in items index k.0) digest ≡ Equal = ap (λ (d : List ℕ). digest_cmp d digest) here ∙ tied_itself nat_list_cmp_total digest in
    elim (cases_lt k.0 place) [
      | inl below ↦ let less = is_place.before k.0 below in absurd (cc)
      | inr from ↦ let more = is_place.after k.0 from k.1 in absurd (cc)
    ]

has : (digest : List ℕ) (x : Content) → x.digest ≡ digest → has_digest digest x ≡ true
has digest x same = (bytes_decides x.digest digest).1 same

has-not : (digest : List ℕ) (x : Content) → (x.digest ≡ digest → ⊥) → has_digest digest x ≡ false
has-not digest x other = false_from_ne_true (has_digest digest x) (λ e. other ((bytes_decides x.digest digest).0 e))

-- where one item has the digest, it is the one that is found
pub find-at : (items : List Content) (digest : List ℕ) (p : ℕ) (x : Content) → p < length items → x ≡ get_or items p x → x.digest ≡ digest
    → ((q : ℕ) → q < p → digest_at items q ≡ digest → ⊥) → (find (has_digest digest) items ≡ Some x) × (is_noted items digest ≡ true)
find-at [] digest p x within is same before = absurd (omega arith)
find-at (y ∷ items) digest zero x within is same before =
    let here : has_digest digest y ≡ true = has digest y (ap (λ (c : Content). c.digest) (sym is) ∙ same) in
    (rw here (ap Some (sym is)), rw here refl)
find-at (y ∷ items) digest (suc p) x within is same before =
    let other : has_digest digest y ≡ false = has-not digest y (before 0 (omega arith)) in
    let rest = find-at items digest p x (omega arith) is same (λ q below. before (suc q) (omega arith)) in
    (rw other rest.0, rw other rest.1)

pub find-none : (items : List Content) (digest : List ℕ) → ((q : ℕ) → q < length items → digest_at items q ≡ digest → ⊥)
    → (find (has_digest digest) items ≡ None) × (is_noted items digest ≡ false)
find-none [] digest none = (refl, refl)
find-none (y ∷ items) digest none =
    let other : has_digest digest y ≡ false = has-not digest y (none 0 (omega arith)) in
    let rest = find-none items digest (λ q below. none (suc q) (omega arith)) in
    (rw other rest.0, rw other rest.1)

-- what a search that found the item tells
pub found : (items : List Content) (index digest : List ℕ) (p : ℕ) (x : Content) → IsIndex items index → IsAt items digest p → x ≡ get_or items p x
    → (find (has_digest digest) items ≡ Some x) × (is_noted items digest ≡ true)
found items index digest p x ordered at is =
    let own : x.digest ≡ digest = ap (λ (c : Content). c.digest) is ∙ sym (digest_at-item items p x at.within) ∙ at.same in
    find-at items digest p x at.within is own
    (λ q below same. let one : q ≡ p = DigestsDiffer-index items index ordered q p (omega (arith, at.within)) at.within (same ∙ sym at.same) in absurd
    (omega arith))

-- what a search that found its place tells
pub missing : (items : List Content) (index digest : List ℕ) (place : ℕ) → IsIndex items index → IsPlaceOf items index digest place
    → (find (has_digest digest) items ≡ None) × (is_noted items digest ≡ false)
missing items index digest place ordered is_place = find-none items digest (λ q within same. none_at items index digest place q ordered is_place within same)

pub is_noted-at : (items : List Content) (index digest : List ℕ) (p : ℕ) → IsIndex items index → IsAt items digest p → is_noted items digest ≡ true
is_noted-at items index digest p ordered at = by_item items index digest p ordered at (slice_get_cases items p).1
  where
    by_item : (items : List Content) (index digest : List ℕ) (p : ℕ) → IsIndex items index → IsAt items digest p
        → ((x : Content) × (p < length items) × (slice_get items p ≡ Some x) × (get_or items p x ≡ x)) ⊎ ((length items ≤ p) × (slice_get items p ≡ None))
        → is_noted items digest ≡ true
    by_item items index digest p ordered at (inl h) = (found items index digest p h.0 ordered at (sym h.3)).1
    by_item items index digest p ordered at (inr h) = absurd (omega (arith, at.within))

pub first_path-at : (items : List Content) (index digest : List ℕ) (p : ℕ) (x : Content) → IsIndex items index → IsAt items digest p → x ≡ get_or items p x
    → first_path items digest ≡ Some x.path
first_path-at items index digest p x ordered at is = ap (option_map (λ (c : Content). c.path)) (found items index digest p x ordered at is).0

pub first_path-none : (items : List Content) (index digest : List ℕ) (place : ℕ) → IsIndex items index → IsPlaceOf items index digest place
    → first_path items digest ≡ None
first_path-none items index digest place ordered is_place = ap (option_map (λ (c : Content). c.path)) (missing items index digest place ordered is_place).0
