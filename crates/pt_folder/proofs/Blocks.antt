-- Blocks read by short reads.
use Rattle.std.proofs.Common.{
  ◌≡◌,
  ℕ,
  ◌+◌,
  ◌-◌,
  ◌≤◌,
  List,
  [],
  ◌++◌,
  None,
  Some,
  arith,
  length,
  take,
  drop,
  slice_range,
  sym,
  ap,
  ◌∙◌,
  subst,
  le_refl,
  drop_at,
  length-take-le,
  append-nil,
  inl,
  inr,
}
use Rattle.std.proofs.Math.Nat.{eq-or-lt_of_le}
use Rattle.std.proofs.lemmas.List.{drop_all, take_all}
use Rattle.std.proofs.Math.Seq.{take-append_seam}
use Rattle.std.specs.Prelude.{Option, IfSome}
use Rattle.std.proofs.lemmas.Slice.{take-put_mid_below}
use Rattle.std.specs.List.{refill}
use Rattle.std.specs.Io.KnownBytes.{Consumes}
use Rattle.std.proofs.KnownBytes.{Consumes-trans}
use Rattle.pt_folder.specs.Bytes.{Fills}
use borrow.Rule.Slice.PartMut.{put_mid, post_of}
use lib.Seq.{take-add, take-append-le}

take_split : (a b : ℕ) (old new : List ℕ) → a ≤ b → take a new ≡ take a old → take a old ++ slice_range new a b ≡ take b new
take_split a b old new h front =
    let same : a + (b - a) ≡ b = omega arith in
    ap (λ l. l ++ slice_range new a b) (sym front) ∙ sym (take-add a (b - a) new) ∙ ap (λ n. take n new) same

slice_range-put_mid : (a k n : ℕ) (xs ys : List ℕ) → a ≤ length xs → n ≤ length ys → slice_range (put_mid a k xs ys) a (a + n) ≡ take n ys
slice_range-put_mid a k n xs ys within fits =
    let same : (a + n) - a ≡ n = omega arith in
    let after = post_of a k xs in
    ap (take ((a + n) - a)) (drop_at (take a xs) (ys ++ after) a (length-take-le a xs within)) ∙ ap (λ m. take m (ys ++ after)) same
    ∙ take-append-le n ys after fits

-- what is read behind what is done
pub put_more : (done count room : ℕ) (buffer part : List ℕ) → done ≤ length buffer → count ≤ length part
    → take (done + count) (put_mid done room buffer part) ≡ take done buffer ++ take count part
put_more done count room buffer part within fits =
    sym (take_split done (done + count) buffer (put_mid done room buffer part) (omega arith) (take-put_mid_below _ _ _ _ _ (le_refl _) within))
    ∙ ap (λ l. take done buffer ++ l) (slice_range-put_mid done room count buffer part within fits)

-- one more read
pub read_more : (old mid new : Option (List ℕ)) (buffer part : List ℕ) (done room count : ℕ) → done ≤ length buffer → count ≤ length part
    → Consumes old mid (take done buffer) → Consumes mid new (take count part) → Consumes old new (take (done + count) (put_mid done room buffer part))
read_more old mid new buffer part done room count within fits first next =
    subst (Consumes old new) (sym (put_more done count room buffer part within fits)) (Consumes-trans old mid new _ _ first next)

take-front : (xs ys : List ℕ) (n : ℕ) → length xs ≡ n → take n (xs ++ ys) ≡ xs
take-front xs ys n long = rw (← long) (take-append_seam xs ys)

-- what was read until the buffer was full or the end was met is the next bytes
pub takes_block : (n : ℕ) (old new : Option (List ℕ)) (count : ℕ) (buffer block : List ℕ) → length buffer ≡ n → Fills old new count buffer
    → block ≡ take count buffer
    → IfSome old (λ bytes. (block ≡ take n bytes) × (new ≡ Some (drop n bytes)))
takes_block n None new count buffer block long fills is = tt {0}
takes_block n (Some bytes) None count buffer block long fills is = absurd fills.taken
takes_block n (Some bytes) (Some rest) count buffer block long fills is = elim (eq-or-lt_of_le fills.within) [
  | inr short ↦
      let ended : rest ≡ [] = fills.full short in
      let all : bytes ≡ block = fills.taken ∙ ap (λ l. take count buffer ++ l) ended ∙ append-nil (take count buffer) ∙ sym is in
      let few : length bytes ≤ n = omega (arith, ap length all, ap length is, length-take-le count buffer fills.within) in
      (sym all ∙ sym (take_all n bytes few), ap Some (ended ∙ sym (drop_all n bytes few)))
  | inl whole ↦
      let size : length block ≡ n = omega (arith, ap length is, length-take-le count buffer fills.within, fills.within) in
      let split : bytes ≡ block ++ rest = fills.taken ∙ ap (λ l. l ++ rest) (sym is) in
      (sym (ap (take n) split ∙ take-front block rest n size), ap Some (sym (ap (drop n) split ∙ drop_at block rest n size)))
]

-- a list of the same length takes another's place
pub refilled : (xs ws : List ℕ) → length ws ≡ length xs → refill (length xs) xs ws ≡ ws
refilled xs ws same = ap (λ n. take n (ws ++ drop (length ws) xs)) (sym same) ∙ take-append_seam ws (drop (length ws) xs)
