use Rattle.std.proofs.Common.{◌≡◌, ℕ, drop}
use Rattle.std.specs.Int.{is_in_range}
use Rattle.std.specs.List.{list_any}
use Rattle.pt_messages.specs.Escaped.{formats, is_format}
use Rattle.pt_messages.proofs.shown.is_format.Given as goal

-- the character is in one of the pairs that are left, if in any
abbrev pub invariant-loop-range : goal.invariant-loop-range
invariant-loop-range l = list_any (λ (range : ℕ × ℕ). is_in_range range.0 range.1 l.fn.c) (drop l.range-index formats) ≡ is_format l.fn.c
