-- A search that halves the part of the index in which a digest can be.
use Rattle.std.proofs.Common.{◌≡◌, ℕ, ◌+◌, ◌-◌, ◌*◌, ◌/◌, ◌<◌, ◌≤◌, ◌^◌, List, length, refl, sym, ◌∙◌, ap, subst, arith, zero, suc, inl, inr}
use Rattle.std.specs.declared.cmp.Ordering.{Ordering}
use Rattle.std.specs.declared.cmp.Ordering.TheVariants.{Less, Equal, Greater}
use Rattle.std.specs.Ordering.{ordering_reverse}
use Rattle.std.proofs.lemmas.Cmp.{nat_list_cmp_total}
use Rattle.std.proofs.lemmas.Bool.{cases_lt}
use Rattle.std.proofs.Math.Nat.{pow-suc}
use Rattle.pt_object.specs.Digest.{digest_cmp}
use Rattle.pt_object.specs.Index.{digest_in, IsIndex, IsPlaceOf}
use Rattle.pt_object.specs.declared.table.contents.Content.{Content}

-- the digest can stand only at the places from low to high, after count comparisons
pub record IsHalved (items : List Content) (index digest : List ℕ) (low high count : ℕ) : Type 0 where
  pub in_order : low ≤ high
  pub within : high ≤ length index
  pub before : (k : ℕ) → k < low → digest_cmp (digest_in items index k) digest ≡ Less
  pub after : (k : ℕ) → high ≤ k → k < length index → digest_cmp (digest_in items index k) digest ≡ Greater
  pub few : (m : ℕ) → length index < 2 ^ m → (count ≤ m) × (high - low < 2 ^ (m - count))
  pub some : count ≡ 0 → (low ≡ 0) × (high ≡ length index)

-- a part that is at most half as long has one binary digit less
fewer : (k size half : ℕ) → size < 2 ^ k → 0 < size → 2 * half ≤ size → (0 < k) × (half < 2 ^ (k - 1))
fewer zero size half below some le = absurd (omega arith)
fewer (suc k) size half below some le =
    let doubled : 2 ^ suc k ≡ 2 ^ k * 2 = pow-suc 2 k in
    let one_less : suc k - 1 ≡ k = omega arith in
    let fits : half < 2 ^ k = omega arith in
    (omega arith, subst (λ (j : ℕ). half < 2 ^ j) (sym one_less) fits)

more_few : (count m size half : ℕ) → count ≤ m → size < 2 ^ (m - count) → 0 < size → 2 * half ≤ size → (count + 1 ≤ m) × (half < 2 ^ (m - (count + 1)))
more_few count m size half le below some twice =
    let less = fewer (m - count) size half below some twice in
    let same : m - count - 1 ≡ m - (count + 1) = omega arith in
    let pos : 0 < m - count = less.0 in
    (omega arith, subst (λ (k : ℕ). half < 2 ^ k) same less.1)

-- the middle's digest is lower: so are all before it
pub halved_low : (items : List Content) (index digest : List ℕ) (low high count middle : ℕ) → IsIndex items index
    → IsHalved items index digest low high count → low < high → middle ≡ low + (high - low) / 2
    → digest_cmp (digest_in items index middle) digest ≡ Less → IsHalved items index digest (middle + 1) high (count + 1)
halved_low items index digest low high count middle ordered halved some at lower = record {
  in_order = omega arith;
  within = halved.within;
  before = λ k h. elim (cases_lt k middle) [
    | inl below ↦ nat_list_cmp_total.trans (digest_in items index k) (digest_in items index middle) digest
        (ordered.rises k middle below (omega (arith, halved.within))) lower
    | inr from ↦ let same : k ≡ middle = omega arith in subst (λ (j : ℕ). digest_cmp (digest_in items index j) digest ≡ Less) (sym same) lower
  ];
  after = halved.after;
  few = λ m h. let was = halved.few m h in more_few count m (high - low) (high - (middle + 1)) was.0 was.1 (omega arith) (omega arith);
  some = λ e. absurd (omega arith);
}

-- the middle's digest is higher: so are all from it on
pub halved_high : (items : List Content) (index digest : List ℕ) (low high count middle : ℕ) → IsIndex items index
    → IsHalved items index digest low high count → low < high → middle ≡ low + (high - low) / 2
    → digest_cmp (digest_in items index middle) digest ≡ Greater → IsHalved items index digest low middle (count + 1)
halved_high items index digest low high count middle ordered halved some at higher = record {
  in_order = omega arith;
  within = omega (arith, halved.within);
  before = halved.before;
  after = λ k from h. elim (cases_lt middle k) [
    | inl above ↦ beyond (digest_in items index middle) (digest_in items index k) digest (ordered.rises middle k above h) higher
    | inr up_to ↦ let same : k ≡ middle = omega arith in subst (λ (j : ℕ). digest_cmp (digest_in items index j) digest ≡ Greater) (sym same) higher
  ];
  few = λ m h. let was = halved.few m h in more_few count m (high - low) (middle - low) was.0 was.1 (omega arith) (omega arith);
  some = λ e. absurd (omega arith);
}
  where
    turned : (o : Ordering) → ordering_reverse o ≡ Greater → o ≡ Less
    turned Less e = refl
    turned Equal e = absurd (cc)
    turned Greater e = absurd (cc)

    beyond : (x y d : List ℕ) → digest_cmp x y ≡ Less → digest_cmp x d ≡ Greater → digest_cmp y d ≡ Greater
    beyond x y d up higher =
        let under : digest_cmp d x ≡ Less = turned (digest_cmp d x) (sym (nat_list_cmp_total.antisymm x d) ∙ higher) in
        let below : digest_cmp d y ≡ Less = nat_list_cmp_total.trans d x y under up in
        nat_list_cmp_total.antisymm y d ∙ ap ordering_reverse below

-- a comparison more is still within the digits
pub halved_count : (items : List Content) (index digest : List ℕ) (low high count m : ℕ) → IsHalved items index digest low high count → low < high
    → length index < 2 ^ m → count + 1 ≤ m
halved_count items index digest low high count m halved some fits =
    let was = halved.few m fits in (more_few count m (high - low) 0 was.0 was.1 (omega arith) (omega arith)).0

pub halved_place : (items : List Content) (index digest : List ℕ) (low high count : ℕ) → IsHalved items index digest low high count → high ≤ low
    → IsPlaceOf items index digest low
halved_place items index digest low high count halved none = record {
  within = omega (arith, halved.in_order, halved.within);
  before = halved.before;
  after = λ k from h. halved.after k (omega (arith, halved.in_order)) h;
}
