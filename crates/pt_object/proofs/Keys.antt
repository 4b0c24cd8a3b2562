-- Digests with different keys come in the order of their keys.
use Rattle.std.proofs.Common.{◌≡◌, ℕ, zero, suc, ◌+◌, ◌*◌, ◌^◌, ◌<◌, ◌≤◌, List, [], ◌∷◌, ◌++◌, length, take, cond, refl, sym, ◌∙◌, ap, arith, inl, inr, lt-ltb}
use Rattle.std.specs.Prelude.{◌==◌}
use Rattle.std.specs.Ordering.{nat_cmp, ordering_then, ordering_reverse}
use Rattle.std.specs.Cmp.Lexicographic.{slice_cmp}
use Rattle.std.specs.declared.cmp.Ordering.{Ordering}
use Rattle.std.specs.declared.cmp.Ordering.TheVariants.{Less, Equal, Greater}
use Rattle.std.proofs.lemmas.Bool.{cases_lt}
use Rattle.std.proofs.lemmas.Cmp.{nat_cmp_total, nat_list_cmp_total, tied_itself}
use Rattle.std.proofs.lemmas.List.{length-take, map_push}
use Rattle.std.proofs.Math.Nat.{pow-suc, mul-le-mul_right}
use Rattle.hex.specs.Hex.{IsBytes}
use Rattle.pt_object.specs.Digest.{digest_cmp}
use Rattle.pt_object.specs.Keys.{key_of, keys_of, number_of}
use Rattle.pt_object.specs.declared.table.contents.Content.{Content}

-- one more byte in front
worth : (x p n : ℕ) → x < 256 → n < p → x * p + n < 256 * p
worth x p n byte below = let most : suc x * p ≤ 256 * p = mul-le-mul_right p byte in omega (arith, most, below)

number_below : (xs : List ℕ) → IsBytes xs → number_of xs < 256 ^ length xs
number_below [] are = omega arith
number_below (x ∷ xs) are =
    let rest = number_below xs (λ i. are (suc i)) in
    let all = worth x (256 ^ length xs) (number_of xs) (are 0) rest in
    let more : 256 ^ suc (length xs) ≡ 256 ^ length xs * 256 = pow-suc 256 (length xs) in
    omega (arith, all, more)

less : (x y : ℕ) → x < y → nat_cmp x y ≡ Less
less x y below = ap (λ b. cond b Less (cond (x == y) Equal Greater)) (lt-ltb x y below)

-- of as many bytes those that are the lower number are the lower
lower : (xs ys : List ℕ) → length xs ≡ length ys → IsBytes xs → IsBytes ys → number_of xs < number_of ys → slice_cmp nat_cmp xs ys ≡ Less
lower [] [] long bx by below = absurd (omega arith)
lower [] (y ∷ ys) long bx by below = absurd (omega arith)
lower (x ∷ xs) [] long bx by below = absurd (omega arith)
lower (x ∷ xs) (y ∷ ys) long bx by below = elim (cases_lt x y) [
  | inl first ↦ ap (λ o. ordering_then o (slice_cmp nat_cmp xs ys)) (less x y first)
  | inr from ↦ elim (cases_lt y x) [
    | inl over ↦ absurd (above over)
    | inr to ↦
        let same : x ≡ y = omega arith in
        let tied : nat_cmp x y ≡ Equal = ap (nat_cmp x) (sym same) ∙ tied_itself nat_cmp_total x in
        let worths : 256 ^ length xs ≡ 256 ^ length ys = ap (λ n. 256 ^ n) as_long in
        let front : x * 256 ^ length xs ≡ y * 256 ^ length ys = ap (λ n. n * 256 ^ length xs) same ∙ ap (λ n. y * n) worths in
        let rest : number_of xs < number_of ys = omega (arith, front, below) in
        ap (λ o. ordering_then o (slice_cmp nat_cmp xs ys)) tied ∙ lower xs ys as_long (λ i. bx (suc i)) (λ i. by (suc i)) rest
  ]
]
  where
    as_long : length xs ≡ length ys
    as_long = omega arith

    above : y < x → ⊥
    above over =
        let worths : 256 ^ length xs ≡ 256 ^ length ys = ap (λ n. 256 ^ n) as_long in
        let most = number_below ys (λ i. by (suc i)) in
        let front : suc y * 256 ^ length xs ≤ x * 256 ^ length xs = mul-le-mul_right (256 ^ length xs) over in
        let same : y * 256 ^ length xs ≡ y * 256 ^ length ys = ap (λ n. y * n) worths in
        omega (arith, worths, most, front, same, below)

bytes_taken : (n : ℕ) (xs : List ℕ) → IsBytes xs → IsBytes (take n xs)
bytes_taken zero xs are i = omega arith
bytes_taken (suc n) [] are i = omega arith
bytes_taken (suc n) (x ∷ xs) are zero = are zero
bytes_taken (suc n) (x ∷ xs) are (suc i) = bytes_taken n xs (λ i. are (suc i)) i

-- what is lower in front is lower
front_lower : (n : ℕ) (xs ys : List ℕ) → n ≤ length xs → n ≤ length ys → slice_cmp nat_cmp (take n xs) (take n ys) ≡ Less → slice_cmp nat_cmp xs ys ≡ Less
front_lower zero xs ys in_x in_y is = absurd (cc)
front_lower (suc n) [] ys in_x in_y is = absurd (omega arith)
front_lower (suc n) (x ∷ xs) [] in_x in_y is = absurd (omega arith)
front_lower (suc n) (x ∷ xs) (y ∷ ys) in_x in_y is = by_first (nat_cmp x y) is (λ rest. front_lower n xs ys (omega arith) (omega arith) rest)
  where
    by_first : (o : Ordering) → ordering_then o (slice_cmp nat_cmp (take n xs) (take n ys)) ≡ Less
        → (slice_cmp nat_cmp (take n xs) (take n ys) ≡ Less → slice_cmp nat_cmp xs ys ≡ Less) → ordering_then o (slice_cmp nat_cmp xs ys) ≡ Less
    by_first Less is later = refl
    by_first Equal is later = later is
    by_first Greater is later = absurd (cc)

key_lower : (a b : List ℕ) → 4 ≤ length a → 4 ≤ length b → IsBytes a → IsBytes b → key_of a < key_of b → digest_cmp a b ≡ Less
key_lower a b long_a long_b are_a are_b below =
    let as_long : length (take 4 a) ≡ length (take 4 b) = omega (arith, length-take 4 a, length-take 4 b) in
    front_lower 4 a b long_a long_b (lower (take 4 a) (take 4 b) as_long (bytes_taken 4 a are_a) (bytes_taken 4 b are_b) below)

-- different keys tell the order
pub by_keys : (a b : List ℕ) (o : Ordering) → 4 ≤ length a → 4 ≤ length b → IsBytes a → IsBytes b → nat_cmp (key_of a) (key_of b) ≡ o → (o ≡ Equal → ⊥)
    → o ≡ digest_cmp a b
by_keys a b o long_a long_b are_a are_b is unequal = elim (cases_lt (key_of a) (key_of b)) [
  | inl below ↦ sym is ∙ less _ _ below ∙ sym (key_lower a b long_a long_b are_a are_b below)
  | inr from ↦ elim (cases_lt (key_of b) (key_of a)) [
    | inl over ↦
        sym is ∙ nat_cmp_total.antisymm (key_of a) (key_of b) ∙ ap ordering_reverse (less _ _ over)
        ∙ sym (nat_list_cmp_total.antisymm a b ∙ ap ordering_reverse (key_lower b a long_b long_a are_b are_a over))
    | inr to ↦
        let same : key_of a ≡ key_of b = omega arith in
        absurd (unequal (sym is ∙ ap (nat_cmp (key_of a)) (sym same) ∙ tied_itself nat_cmp_total (key_of a)))
  ]
]

-- one more item
pub keys-push : (items : List Content) (x : Content) (keys : List ℕ) (key : ℕ) → keys ≡ keys_of items → key ≡ key_of x.digest
    → keys ++ key ∷ [] ≡ keys_of (items ++ x ∷ [])
keys-push items x keys key keyed is = (λ i. keyed i ++ is i ∷ []) ∙ sym (map_push (λ (c : Content). key_of c.digest) items x)
