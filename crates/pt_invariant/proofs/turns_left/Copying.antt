-- The rows that are still to copy or to pass, and the blocks of a file.
use Rattle.std.proofs.Common.{
  ◌≡◌,
  ◌<◌,
  ◌≤◌,
  ◌-◌,
  ℕ,
  zero,
  suc,
  ◌+◌,
  ◌/◌,
  Bool,
  true,
  false,
  List,
  [],
  ◌∷◌,
  ◌++◌,
  refl,
  ap,
  sym,
  ◌∙◌,
  arith,
  cond,
  drop,
  length,
  take,
}
use Rattle.std.specs.Prelude.{Option, Some, nat_lt, slice_get, sum_by}
use Rattle.std.specs.Option.{option_map}
use Rattle.std.proofs.lemmas.Bool.{ltb-false, ltb-true}
use Rattle.std.proofs.lemmas.List.{length-drop, length-take-le, take_all}
use Rattle.std.proofs.Math.Nat.{add-div_left}
use Rattle.std.proofs.lemmas.List.Sums.{sum_by-cons}
use Rattle.pt_object.specs.Distinct.{distinct_after}
use Rattle.pt_object.specs.declared.rows.Row.{Row}
use Rattle.pt_plan.specs.Work.{reads, work_to_copy}
use Rattle.pt_invariant.specs.SourceInvariant.{IsReading}
use Rattle.pt_invariant.proofs.held.DistinctRows.{is_known}
use Rattle.pt_invariant.proofs.source.InPairtree.{some_same}
use Rattle.pt_invariant.proofs.Tests.{take_one}
use Rattle.pt_invariant.specs.Rank.{to_copy, to_copy_from}

-- ---- the rows

pub drop_at : {X : Type 0} → (n : ℕ) (xs : List X) {x : X} → slice_get xs n ≡ Some x → drop n xs ≡ x ∷ drop (suc n) xs
drop_at n [] is = absurd (cc)
drop_at zero (y ∷ xs) {x} is =
    let same : y ≡ x = cc in
    ap (λ z. z ∷ xs) same
drop_at (suc n) (_ ∷ xs) is = drop_at n xs is

-- one row, and those behind it
pub copy_next : (rows : List Row) (n : ℕ) {row : Row} {known : Bool} → slice_get rows n ≡ Some row → is_known (take n rows) row ≡ known
    → to_copy_from rows n ≡ cond known 1 (reads row.length) + to_copy_from rows (n + 1)
copy_next rows n {row} {known} is is_it =
    let next : suc n ≡ n + 1 = omega arith in
    ap (to_copy (take n rows)) (drop_at n rows is)
    ∙ ap (λ b. cond b 1 (reads row.length) + to_copy (take n rows ++ row ∷ []) (drop (suc n) rows)) is_it
    ∙ ap (λ (l : List Row). cond known 1 (reads row.length) + to_copy l (drop (suc n) rows)) (sym (take_one n rows row is))
    ∙ ap (λ (k : ℕ). cond known 1 (reads row.length) + to_copy_from rows k) next

-- all of them are the work to copy
copies_after : (earlier rows : List Row) → (to_copy earlier rows ≡ sum_by (λ row. reads row.length) (distinct_after earlier rows)
    + (length rows - length (distinct_after earlier rows))) × (length (distinct_after earlier rows) ≤ length rows)
copies_after earlier [] = (refl, omega arith)
copies_after earlier (row ∷ rows) = by (is_known earlier row) (copies_after (earlier ++ row ∷ []) rows)
  where
    cost : Row → ℕ
    cost row = reads row.length

    others : List Row
    others = distinct_after (earlier ++ row ∷ []) rows

    by : (known : Bool) → (to_copy (earlier ++ row ∷ []) rows ≡ sum_by (λ row. reads row.length) others + (length rows - length others))
        × (length others ≤ length rows)
        → (cond known 1 (reads row.length) + to_copy (earlier ++ row ∷ []) rows ≡ sum_by (λ row. reads row.length) (cond known others (row ∷ others))
        + (suc (length rows) - length (cond known others (row ∷ others)))) × (length (cond known others (row ∷ others)) ≤ suc (length rows))
    by true later = let sum = later.0 in let few = later.1 in (omega (arith, sum, few), omega (arith, few))
    by false later =
        let sum = later.0 in
        let few = later.1 in
        let more : sum_by (λ row. reads row.length) (row ∷ others) ≡ reads row.length + sum_by (λ row. reads row.length) others = sum_by-cons
        (λ (row : Row). reads row.length) row others in
        (omega (arith, sum, few, more), omega (arith, few))

pub copies_all : (rows : List Row) → to_copy_from rows 0 ≡ work_to_copy rows
copies_all rows = (copies_after [] rows).0

-- ---- the blocks

one_block : {n : ℕ} → 0 < n → n ≤ 8192 → reads 0 + 1 ≤ reads n
one_block {n} some few =
    let split : 8192 + (n - 1) ≡ n + 8191 = omega (arith, some) in
    let whole = add-div_left (n - 1) {k = 8192} (omega arith) in
    let same : (8192 + (n - 1)) / 8192 ≡ (n + 8191) / 8192 = ap (λ (k : ℕ). k / 8192) split in
    omega (arith, whole, same)

more_blocks : {n : ℕ} → 8192 < n → reads (n - 8192) + 1 ≤ reads n
more_blocks {n} many =
    let split : 8192 + (n - 8192 + 8191) ≡ n + 8191 = omega (arith, many) in
    let whole = add-div_left (n - 8192 + 8191) {k = 8192} (omega arith) in
    let same : (8192 + (n - 8192 + 8191)) / 8192 ≡ (n + 8191) / 8192 = ap (λ (k : ℕ). k / 8192) split in
    omega (arith, whole, same)

-- a block that is read of what is left lowers the reads of it
pub block_read : {bytes : List ℕ} {count : ℕ} {fed : List ℕ} {byte : ℕ} {block : List ℕ} {unread : Option (List ℕ)} → IsReading bytes count fed unread
    → option_map (take 8192) unread ≡ Some (byte ∷ block)
    → reads (length bytes - (count + length (byte ∷ block))) + 1 ≤ reads (length bytes - count)
block_read {bytes} {count} {byte} {block} it read = by (nat_lt 8192 (length rest)) refl
  where
    rest : List ℕ
    rest = drop count bytes

    is_block : take 8192 rest ≡ byte ∷ block
    is_block = some_same _ _ (sym (ap (option_map (take 8192)) it.left) ∙ read)

    long : length rest ≡ length bytes - count
    long = length-drop count bytes

    by : (more : Bool) → nat_lt 8192 (length rest) ≡ more → reads (length bytes - (count + length (byte ∷ block))) + 1 ≤ reads (length bytes - count)
    by true is =
        let many = ltb-true 8192 (length rest) is in
        let whole : length (byte ∷ block) ≡ 8192 = sym (ap length is_block) ∙ length-take-le 8192 rest (omega (arith, many)) in
        let less = more_blocks {n = length bytes - count} (omega (arith, many, long)) in
        let left : length bytes - (count + length (byte ∷ block)) ≡ length bytes - count - 8192 = omega (arith, whole, long, many) in
        let same = ap reads left in
        omega (arith, less, same)
    by false is =
        let few = ltb-false 8192 (length rest) is in
        let all : length (byte ∷ block) ≡ length rest = sym (ap length is_block) ∙ ap length (take_all 8192 rest few) in
        let less = one_block {n = length bytes - count} (omega (arith, all, long)) (omega (arith, few, long)) in
        let left : length bytes - (count + length (byte ∷ block)) ≡ 0 = omega (arith, all, long) in
        let same = ap reads left in
        omega (arith, less, same)
