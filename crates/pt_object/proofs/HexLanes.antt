-- Sixteen bytes in hex, as the lanes of two vectors.
use Rattle.std.proofs.Common.{
  ◌≡◌,
  ℕ,
  zero-add,
  Bool,
  cond,
  ltb,
  ◌-◌,
  ◌+◌,
  ◌*◌,
  ◌/◌,
  ◌%◌,
  ◌^◌,
  ◌<◌,
  ◌≤◌,
  List,
  [],
  ◌∷◌,
  ◌++◌,
  map,
  length,
  get_or,
  take,
  drop,
  replicate,
  slice_index,
  bit_and,
  refl,
  sym,
  append_assoc,
  take-add,
  length-append,
  length-drop,
  length-take-le,
  ap,
  subst,
  ◌∙◌,
  arith,
  w8,
  Fits,
}
use Rattle.std.specs.List.{All, range_with_len}
use Rattle.std.proofs.lemmas.List.{get_or-map, length-map, ext_get_or, take_at}
use Rattle.std.proofs.lemmas.List.Elements.{All-from_get_or, All-get_or}
use Rattle.std.proofs.lemmas.List.FromFn.{get_or-map-range_with_len}
use Rattle.std.proofs.lemmas.Nat.{and_le_r, and_mask}
use Rattle.std.proofs.lemmas.Simd.{
  Each1-all,
  Each1-get_or,
  Each1-weaker,
  Each1-zip2,
  Each2-splat,
  below_from_Fits,
  length-chunk,
  map-map,
  put_chunk_is,
  pick_l_whole,
  tops_compared,
  zip2_splat,
  zip2_splat_left,
}
use lib.Lanes.{chunk, zip2, pick_l, put_chunk, sel_l, top, Each1}
use mir.Val.{bits, hbits}
use borrow.Rule.Slice.PartMut.{mid_of, post_of, put_mid}
use Rattle.hex.proofs.HexLemmas.{length-encode_with}
use Rattle.hex.specs.Hex.{encode_lower, encode_with, lower_digits}

-- a vector of sixteen bytes
abbrev pub AreSixteen : List ℕ → Type 0
AreSixteen v = (length v ≡ 16) × Each1 (Fits w8) v

-- a shift to the right
abbrev pub down : ℕ → ℕ → ℕ
down a b = a / 2 ^ b

-- the halves of bytes are below sixteen
all_below : (v : List ℕ) → Each1 (λ n. n < 16) v → All (λ n. n < 16) v
all_below v each = All-from_get_or (λ n. n < 16) v 0 (λ i within. Each1-get_or (λ n. n < 16) v i 0 within each)

pub high_ok : (v : List ℕ) → AreSixteen v → All (λ n. n < 16) (zip2 down v (replicate 16 4))
high_ok v fits =
    let small = Each1-weaker (λ a. a < 256) (λ a. a / 16 < 16) (λ a h. omega arith) v (below_from_Fits w8 v fits.1) in
    all_below (zip2 down v (replicate 16 4)) (Each1-zip2 down (λ j. j < 16) v (replicate 16 4) (Each2-splat (λ a b. down a b < 16) v 16 4 small))

pub low_ok : (v : List ℕ) → AreSixteen v → All (λ n. n < 16) (zip2 bit_and v (replicate 16 15))
low_ok v fits =
    let small = Each1-all (λ a. bit_and a 15 < 16) (λ a. omega (arith, and_le_r a 15)) v in
    all_below (zip2 bit_and v (replicate 16 15)) (Each1-zip2 bit_and (λ j. j < 16) v (replicate 16 15) (Each2-splat (λ a b. bit_and a b < 16) v 16 15 small))

-- a sum of bytes, which wraps
abbrev pub plus : ℕ → ℕ → ℕ
plus a b = (a + b) % 2 ^ 8

-- the digit of a number below sixteen, as it is computed
abbrev digit : ℕ → ℕ
digit n = plus n (cond (ltb 9 n) 87 48)

all_digits : map digit (range_with_len 0 16) ≡ lower_digits
all_digits = refl

each_digit : (n : ℕ) → n < 16 → digit n ≡ slice_index lower_digits n
each_digit n lt =
    sym (get_or-map-range_with_len digit 0 16 n n 0 lt (zero-add n)) ∙ ap (λ (l : List ℕ). get_or l n 0) all_digits

digits_are : (v : List ℕ) → ((i : ℕ) → i < length v → get_or v i 0 < 16) → map digit v ≡ map (slice_index lower_digits) v
digits_are v below =
    ext_get_or 0 _ _ (length-map v digit ∙ sym (length-map v (slice_index lower_digits))) (λ i l.
    let within : i < length v = omega (arith, length-map v digit) in
    get_or-map digit v i 0 0 within ∙ each_digit (get_or v i 0) (below i within) ∙ sym (get_or-map (slice_index lower_digits) v i 0 0 within))

-- one of two numbers for each lane, by a test of it
selected : (p : ℕ → Bool) (a b : ℕ) (v : List ℕ) → sel_l (map p v) (replicate (length v) a) (replicate (length v) b) ≡ map (λ n. cond (p n) a b) v
selected p a b [] = refl
selected p a b (x ∷ v) = ap (λ (l : List ℕ). cond (p x) a b ∷ l) (selected p a b v)

added : (f : ℕ → ℕ → ℕ) (h : ℕ → ℕ) (v : List ℕ) → zip2 f v (map h v) ≡ map (λ n. f n (h n)) v
added f h [] = refl
added f h (x ∷ v) = ap (λ (l : List ℕ). f x (h x) ∷ l) (added f h v)

pub computed : (v : List ℕ) → length v ≡ 16 → All (λ n. n < 16) v
    → zip2 plus v (sel_l (map (top (hbits w8)) (zip2 (λ a b. cond (ltb a b) (2 ^ bits w8 - 1) 0) (replicate 16 9) v)) (replicate 16 87) (replicate 16 48))
    ≡ map (slice_index lower_digits) v
computed v long below =
    let masks = tops_compared w8 ltb (replicate 16 9) v ∙ zip2_splat_left ltb 9 16 v long in
    let chosen = ap (λ k. sel_l (map (λ n. ltb 9 n) v) (replicate k 87) (replicate k 48)) (sym long) ∙ selected (λ n. ltb 9 n) 87 48 v in
    ap (λ (ms : List Bool). zip2 plus v (sel_l ms (replicate 16 87) (replicate 16 48))) masks
    ∙ ap (zip2 plus v) chosen
    ∙ added plus (λ n. cond (ltb 9 n) 87 48) v
    ∙ digits_are v (λ i within. All-get_or (λ n. n < 16) v i 0 within below)

-- the digits of the upper halves, and of the lower ones
high_digits : (t v : List ℕ) → AreSixteen v → map (slice_index t) (zip2 down v (replicate 16 4)) ≡ map (λ x. slice_index t (x / 16)) v
high_digits t v fits = ap (map (slice_index t)) (zip2_splat down v 16 4 fits.0) ∙ map-map (slice_index t) (λ x. down x 4) v

low_digits : (t v : List ℕ) → AreSixteen v → map (slice_index t) (zip2 bit_and v (replicate 16 15)) ≡ map (λ x. slice_index t (x % 16)) v
low_digits t v fits =
    ap (map (slice_index t)) (zip2_splat bit_and v 16 15 fits.0) ∙ map-map (slice_index t) (λ x. bit_and x 15) v
    ∙ (λ i. map (λ x. slice_index t (and_mask x 4 i)) v)

-- a lane of the first vector and a lane of the second, by turns
abbrev pub by_turns : List ℕ
by_turns =
    0 ∷ 16 ∷ 1 ∷ 17 ∷ 2 ∷ 18 ∷ 3 ∷ 19 ∷ 4 ∷ 20 ∷ 5 ∷ 21 ∷ 6 ∷ 22 ∷ 7 ∷ 23 ∷ 8 ∷ 24 ∷ 9 ∷ 25 ∷ 10 ∷ 26 ∷ 11 ∷ 27 ∷ 12 ∷ 28 ∷ 13 ∷ 29 ∷ 14 ∷ 30 ∷ 15 ∷ 31 ∷ []

-- taken so, the digits are the text of the bytes
turns : (t v : List ℕ) → length v ≡ 16 → pick_l 0 (map (λ x. slice_index t (x / 16)) v ++ map (λ x. slice_index t (x % 16)) v) by_turns ≡ encode_with t v
unfolding encode_with
turns t v long =
    subst (λ (w : List ℕ). pick_l 0 (map (λ x. slice_index t (x / 16)) w ++ map (λ x. slice_index t (x % 16)) w) by_turns ≡ encode_with t w)
    (pick_l_whole 0 v 16 long) refl

pub sixteen_in_hex : (v upper lower : List ℕ) → AreSixteen v
    → upper ≡ map (slice_index lower_digits) (zip2 down v (replicate 16 4)) → lower ≡ map (slice_index lower_digits) (zip2 bit_and v (replicate 16 15))
    → pick_l 0 (upper ++ lower) by_turns ≡ encode_lower v
sixteen_in_hex v upper lower fits above below =
    ap (λ (l : List ℕ). pick_l 0 (l ++ lower) by_turns) (above ∙ high_digits lower_digits v fits)
    ∙ ap (λ (l : List ℕ). pick_l 0 (map (λ x. slice_index lower_digits (x / 16)) v ++ l) by_turns) (below ∙ low_digits lower_digits v fits)
    ∙ turns lower_digits v fits.0

-- bytes one behind another
pub encode_with-append : (t xs ys : List ℕ) → encode_with t (xs ++ ys) ≡ encode_with t xs ++ encode_with t ys
unfolding encode_with
encode_with-append t [] ys = refl
encode_with-append t (x ∷ xs) ys = ap (λ (l : List ℕ). slice_index t (x / 16) ∷ slice_index t (x % 16) ∷ l) (encode_with-append t xs ys)

-- a room of which 32 bytes are written behind the first a
pub stored : (room d : List ℕ) (a k : ℕ) → a + k ≡ length room → 32 ≤ k → length d ≡ 32
    → take (a + 32) (put_mid a k room (put_chunk 0 (mid_of a k room) d)) ≡ take a room ++ d
stored room d a k whole le long =
    let mid = mid_of a k room in
    let rest = drop 32 mid ++ post_of a k room in
    let within : length mid ≡ k = length-take-le k (drop a room) (omega (arith, length-drop a room)) in
    let put : put_chunk 0 mid d ≡ d ++ drop 32 mid = put_chunk_is 0 mid d (omega arith) ∙ ap (λ n. d ++ drop n mid) long in
    let first : length (take a room ++ d) ≡ a + 32 = omega (arith, length-append (take a room) d, length-take-le a room (omega arith)) in
    ap (λ (l : List ℕ). take (a + 32) (take a room ++ (l ++ post_of a k room))) put
    ∙ ap (λ (l : List ℕ). take (a + 32) (take a room ++ l)) (append_assoc d (drop 32 mid) (post_of a k room))
    ∙ ap (λ (l : List ℕ). take (a + 32) l) (sym (append_assoc (take a room) d rest))
    ∙ take_at (take a room ++ d) rest (a + 32) first

-- sixteen more bytes
pub one_more : (t bytes room d : List ℕ) (i k : ℕ) → length room ≡ 128 → 32 * i + k ≡ 128 → 32 ≤ k → 16 * i + 16 ≤ length bytes
    → take (32 * i) room ≡ encode_with t (take (16 * i) bytes)
    → d ≡ encode_with t (chunk (16 * i) 16 bytes) → take (32 * (i + 1)) (put_mid (32 * i) k room (put_chunk 0 (mid_of (32 * i) k room) d))
    ≡ encode_with t (take (16 * (i + 1)) bytes)
one_more t bytes room d i k long whole le within so_far more =
    let piece = chunk (16 * i) 16 bytes in
    let length_d : length d ≡ 32 = omega (arith, ap length more, length-encode_with t piece, length-chunk (16 * i) 16 bytes within) in
    let next : 32 * (i + 1) ≡ 32 * i + 32 = omega arith in
    let last : 16 * i + 16 ≡ 16 * (i + 1) = omega arith in
    ap (λ n. take n (put_mid (32 * i) k room (put_chunk 0 (mid_of (32 * i) k room) d))) next
    ∙ stored room d (32 * i) k (omega arith) le length_d
    ∙ ap (λ (l : List ℕ). l ++ d) so_far
    ∙ ap (λ (l : List ℕ). encode_with t (take (16 * i) bytes) ++ l) more
    ∙ sym (encode_with-append t (take (16 * i) bytes) piece)
    ∙ ap (λ (l : List ℕ). encode_with t l) (sym (take-add (16 * i) 16 bytes) ∙ ap (λ n. take n bytes) last)
