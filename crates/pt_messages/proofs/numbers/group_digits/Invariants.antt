use Rattle.std.proofs.Common.{◌≡◌, List, ℕ, ◌++◌, length, string_bytes}
use Rattle.std.specs.Prelude.{decimal}
use Rattle.pt_messages.specs.Numbers.{grouped, with_commas}
use Rattle.pt_messages.proofs.numbers.group_digits.Given as goal

-- what is written so far, with what the digits that are left come to, is the whole; so many digits are left
abbrev pub invariant-loop-digit : goal.invariant-loop-digit
invariant-loop-digit l = (rest : List ℕ) → l.yielded ++ rest ≡ decimal l.fn.number
    → (string_bytes l.text ++ with_commas rest ≡ grouped l.fn.number) × (l.left ≡ length rest)
