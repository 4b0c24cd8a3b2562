use Rattle.std.proofs.Common.{◌≡◌, ◌<◌, ◌≤◌, ℕ, get_or, length}
use Rattle.pt_messages.proofs.expected.last_line.Given as goal

-- no LF stands from there on
abbrev pub invariant-loop-begin : goal.invariant-loop-begin
invariant-loop-begin l = (l.begin ≤ length l.lines) × ((k : ℕ) → l.begin ≤ k → k < length l.lines → get_or l.lines k 0 ≡ 10 → ⊥)

abbrev pub decreases-loop-begin : goal.decreases-loop-begin
decreases-loop-begin l = l.begin
