-- How often a turn calls the source, and asks the destination.
use Rattle.std.proofs.Common.{ℕ, ◌+◌, ◌≤◌, sym, subst, add-zero, zero-add, add_assoc, add-le-add, le_refl, le_trans}

-- what was called n times is now called at most so many times more
unfoldable pub AtMostCalls : ℕ → (ℕ → Type 0) → (ℕ → Type 0) → Type 0
AtMostCalls most before after = (n : ℕ) → before n → (m : ℕ) × ((m ≤ most) × after (n + m))

-- none was made
pub calls_none : (a : ℕ → Type 0) → AtMostCalls 0 a a
unfolding AtMostCalls
calls_none a = λ n h. (0, (le_refl 0, subst a (sym (add-zero n)) h))

-- no more is no more than more
pub calls_most : (a b : ℕ → Type 0) (m n : ℕ) → AtMostCalls m a b → m ≤ n → AtMostCalls n a b
unfolding AtMostCalls
calls_most a b m n calls few = λ x h. let made = calls x h in (made.0, (le_trans made.1.0 few, made.1.1))

-- calls are followed by others
pub calls_more : (a b d : ℕ → Type 0) (m n : ℕ) → AtMostCalls m a b → AtMostCalls n b d
    → AtMostCalls (m + n) a d
unfolding AtMostCalls
calls_more a b d m n first next = λ x h.
    let one = first x h in
    let two = next (x + one.0) one.1.1 in
    (one.0 + two.0, (add-le-add one.1.0 two.1.0, subst d (add_assoc x one.0 two.0) two.1.1))

-- or by none
pub calls_still : (a b d : ℕ → Type 0) (n : ℕ) → AtMostCalls n a b → AtMostCalls 0 b d → AtMostCalls n a d
calls_still a b d n first next =
    subst (λ (k : ℕ). AtMostCalls k a d) (add-zero n) (calls_more a b d n 0 first next)

-- or come after none
pub calls_after : (a b d : ℕ → Type 0) (n : ℕ) → AtMostCalls 0 a b → AtMostCalls n b d → AtMostCalls n a d
calls_after a b d n first next =
    subst (λ (k : ℕ). AtMostCalls k a d) (zero-add n) (calls_more a b d 0 n first next)
