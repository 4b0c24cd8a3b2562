-- The texts of lengths: how long they are, and of which lengths they are equal.
use Rattle.std.proofs.Common.{◌++◌, ◌≡◌, ◌<◌, ◌≤◌, ◌^◌, ℕ, List, true, false, sym, ◌∙◌, ap, arith, length}
use Rattle.std.specs.Prelude.{Bool, decimal, nat_lt}
use Rattle.std.proofs.lemmas.Fmt.{decimal_injective, decimal_nonempty, length-decimal-le}
use Rattle.std.proofs.lemmas.List.{append_cancel_right, length-append}
use Rattle.pt_quick.specs.Measured.{mark_by, text_of_file, text_of_length}

-- a length's digits are one to twenty
few_digits : (count : ℕ) → count < 2 ^ 64 → length (decimal count) ≤ 20
few_digits count fits = length-decimal-le 20 count (omega arith) (omega arith) fits

-- so a text is short
pub short_text : (longest count : ℕ) → count < 2 ^ 64 → length (text_of_length longest count) ≤ 40
short_text longest count fits = by (nat_lt longest count)
  where
    by : (over : Bool) → length (decimal count ++ mark_by over) ≤ 40
    by true = let few = few_digits count fits in simp length-append (omega arith)
    by false = let few = few_digits count fits in simp length-append (omega arith)

-- a length that isn't over the greatest has at most twenty bytes, and any other more
pub text_of_carried : (longest count : ℕ) → count < 2 ^ 64 → nat_lt 20 (length (text_of_length longest count)) ≡ nat_lt longest count
text_of_carried longest count fits = by (nat_lt longest count)
  where
    by : (over : Bool) → nat_lt 20 (length (decimal count ++ mark_by over)) ≡ over
    by true = let some : 0 < length (decimal count) = decimal_nonempty count fits in simp length-append (grind arith)
    by false = let few : length (decimal count) ≤ 20 = few_digits count fits in simp length-append (grind arith)

-- of bytes fewer than 2^64 the texts are equal only where the lengths are
pub same_length : (longest : ℕ) (x y : List ℕ) → length x < 2 ^ 64 → length y < 2 ^ 64 → text_of_file longest x ≡ text_of_file longest y → length x ≡ length y
same_length longest x y short shorter same = decimal_injective (length x) (length y) short shorter
    (append_cancel_right (decimal (length x)) (decimal (length y)) (mark_by (nat_lt longest (length y)))
    (ap (λ over. decimal (length x) ++ mark_by over) (sym over) ∙ same))
  where
    over : nat_lt longest (length x) ≡ nat_lt longest (length y)
    over = sym (text_of_carried longest (length x) short) ∙ ap (λ (text : List ℕ). nat_lt 20 (length text)) same
        ∙ text_of_carried longest (length y) shorter
