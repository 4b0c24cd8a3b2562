-- Tests of all elements of a list.
use Rattle.std.proofs.Common.{◌≡◌, ℕ, zero, suc, ◌&&◌, Bool, true, List, [], ◌∷◌, ◌++◌, refl, ap, sym, ◌∙◌, drop, map, take}
use Rattle.std.specs.List.{list_all}
use Rattle.std.specs.Prelude.{Some, slice_get}
use Rattle.std.proofs.lemmas.Bool.{and_from, and_parts}

pub drop_nil : {X : Type 0} → (n : ℕ) → drop {A = X} n [] ≡ []
drop_nil zero = refl
drop_nil (suc n) = refl

pub all_drop : {X : Type 0} → (test : X → Bool) (n : ℕ) (xs : List X) → list_all test xs ≡ true → list_all test (drop n xs) ≡ true
all_drop test zero xs h = h
all_drop test (suc n) [] h = refl
all_drop test (suc n) (x ∷ xs) h = all_drop test n xs (and_parts (test x) (list_all test xs) h).1

-- one more is dropped
pub all_drop_more : {X : Type 0} → (test : X → Bool) (n : ℕ) (xs : List X) → list_all test (drop n xs) ≡ true → list_all test (drop (suc n) xs) ≡ true
all_drop_more test n [] h = refl
all_drop_more test zero (x ∷ xs) h = (and_parts (test x) (list_all test xs) h).1
all_drop_more test (suc n) (x ∷ xs) h = all_drop_more test n xs h

-- the first that isn't dropped
pub first_passes : {X : Type 0} → (test : X → Bool) (n : ℕ) (xs : List X) (x : X) → slice_get xs n ≡ Some x → list_all test (drop n xs) ≡ true → test x ≡ true
first_passes test n [] x is h = absurd (cc)
first_passes test zero (y ∷ xs) x is h =
    let same : y ≡ x = cc in
    ap test (sym same) ∙ (and_parts (test y) (list_all test xs) h).0
first_passes test (suc n) (y ∷ xs) x is h = first_passes test n xs x is h

pub all_true : {X : Type 0} → (test : X → Bool) → ((x : X) → test x ≡ true) → (xs : List X) → list_all test xs ≡ true
all_true test each [] = refl
all_true test each (x ∷ xs) = and_from (test x) (list_all test xs) (each x) (all_true test each xs)

pub all_then : {X : Type 0} → (test other : X → Bool) → ((x : X) → test x ≡ true → other x ≡ true) → (xs : List X) → list_all test xs ≡ true
    → list_all other xs ≡ true
all_then test other each [] h = refl
all_then test other each (x ∷ xs) h =
    let parts = and_parts (test x) (list_all test xs) h in
    and_from (other x) (list_all other xs) (each x parts.0) (all_then test other each xs parts.1)

pub all_both : {X : Type 0} → (one two both : X → Bool) → ((x : X) → one x ≡ true → two x ≡ true → both x ≡ true) → (xs : List X) → list_all one xs ≡ true
    → list_all two xs ≡ true → list_all both xs ≡ true
all_both one two both each [] h g = refl
all_both one two both each (x ∷ xs) h g =
    let first = and_parts (one x) (list_all one xs) h in
    let second = and_parts (two x) (list_all two xs) g in
    and_from (both x) (list_all both xs) (each x first.0 second.0) (all_both one two both each xs first.1 second.1)

pub all_map : {X Y : Type 0} → (f : X → Y) (test : Y → Bool) (xs : List X) → list_all test (map f xs) ≡ list_all (λ x. test (f x)) xs
all_map f test [] = refl
all_map f test (x ∷ xs) = ap (λ b. test (f x) && b) (all_map f test xs)

pub drop_map : {X Y : Type 0} → (f : X → Y) (n : ℕ) (xs : List X) → drop n (map f xs) ≡ map f (drop n xs)
drop_map f zero xs = refl
drop_map f (suc n) [] = refl
drop_map f (suc n) (x ∷ xs) = drop_map f n xs

pub take_map : {X Y : Type 0} → (f : X → Y) (n : ℕ) (xs : List X) → take n (map f xs) ≡ map f (take n xs)
take_map f zero xs = refl
take_map f (suc n) [] = refl
take_map f (suc n) (x ∷ xs) = ap (λ l. f x ∷ l) (take_map f n xs)

-- one element more is taken, if there is one
pub take_one : {X : Type 0} → (n : ℕ) (xs : List X) (x : X) → slice_get xs n ≡ Some x → take (suc n) xs ≡ take n xs ++ x ∷ []
take_one n [] x is = absurd (cc)
take_one zero (y ∷ xs) x is =
    let same : y ≡ x = cc in
    ap (λ z. z ∷ []) same
take_one (suc n) (y ∷ xs) x is = ap (λ l. y ∷ l) (take_one n xs x is)

-- a list is what is before an element, that element, and what is behind it
pub split_at : {X : Type 0} → (n : ℕ) (xs : List X) (x : X) → slice_get xs n ≡ Some x → xs ≡ take n xs ++ x ∷ drop (suc n) xs
split_at n [] x is = absurd (cc)
split_at zero (y ∷ xs) x is =
    let same : y ≡ x = cc in
    ap (λ z. z ∷ xs) same
split_at (suc n) (y ∷ xs) x is = ap (λ l. y ∷ l) (split_at n xs x is)
