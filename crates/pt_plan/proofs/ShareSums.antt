-- Sums of what the shares of a store have.
use Rattle.std.proofs.Common.{◌≡◌, ◌≢◌, ◌≤◌, ◌+◌, ◌==◌, ℕ, zero, suc, Bool, true, false, arith, ap, sym, ◌∙◌, refl, eq-eqb}
use Rattle.std.proofs.lemmas.Bool.{eqb-true, true≢false}
use Rattle.pt_plan.specs.ShareLaws.{IsOneOf, sum_of_shares}

pub sum_of_none : {f : ℕ → ℕ} (count : ℕ) → ((index : ℕ) → 1 ≤ index → index ≤ count → f index ≡ 0) → sum_of_shares f count ≡ 0
sum_of_none zero _ = refl
sum_of_none (suc count) none =
    let front = sum_of_none count (λ index some h. none index some (omega (arith, h))) in
    let last = none (suc count) (omega arith) (omega arith) in
    omega (arith, front, last)

pub sum_at_one : {f : ℕ → ℕ} {n x : ℕ} (count : ℕ) → 1 ≤ n → n ≤ count → f n ≡ x → ((index : ℕ) → 1 ≤ index → index ≤ count → index ≢ n → f index ≡ 0)
    → sum_of_shares f count ≡ x
sum_at_one zero first last at off = absurd (omega (arith, first, last))
sum_at_one {f} {n} {x} (suc count) first last at off = by (n == suc count) refl
    (λ less. sum_at_one count first less at (λ index some h. off index some (omega (arith, h))))
  where
    by : (t : Bool) → (n == suc count) ≡ t → (n ≤ count → sum_of_shares f count ≡ x) → sum_of_shares f (suc count) ≡ x
    by true h front_is =
        let here : n ≡ suc count = eqb-true n (suc count) h in
        let front = sum_of_none count (λ index some less. off index some (omega (arith, less)) (λ e. omega (arith, e, here, less))) in
        let mine = ap f (sym here) ∙ at in
        omega (arith, front, mine)
    by false h front_is =
        let apart : suc count ≢ n = λ e. absurd (true≢false (sym (eq-eqb n (suc count) (sym e)) ∙ h)) in
        let front = front_is (omega (arith, last, apart)) in
        let mine = off (suc count) (omega arith) (omega arith) apart in
        omega (arith, front, mine)

pub sum_of_both : (f g : ℕ → ℕ) (count : ℕ) → sum_of_shares (λ index. f index + g index) count ≡ sum_of_shares f count + sum_of_shares g count
sum_of_both _ _ zero = refl
sum_of_both f g (suc count) = let front = sum_of_both f g count in omega (arith, front)

pub same_sums : {f g : ℕ → ℕ} (count : ℕ) → ((index : ℕ) → f index ≡ g index) → sum_of_shares f count ≡ sum_of_shares g count
same_sums zero _ = refl
same_sums (suc count) same = λ k. same_sums count same k + same (suc count) k

-- the sums of what is the same of each share
pub sums_within : {f g : ℕ → ℕ} (count : ℕ) → ((index : ℕ) → IsOneOf count index → f index ≡ g index) → sum_of_shares f count ≡ sum_of_shares g count
sums_within zero _ = refl
sums_within (suc count) same =
    let front = sums_within count (λ index one. same index (record { first = one.first; last = let last = one.last in omega (arith, last) })) in
    let last = same (suc count) (record { first = omega arith; last = omega arith }) in
    λ k. front k + last k
