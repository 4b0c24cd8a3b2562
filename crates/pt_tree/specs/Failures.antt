-- How devices count their failures, and a source its calls or a destination its looks.
use Rattle.std.specs.Prelude.{◌≡◌, ℕ, ◌+◌, ◌≤◌, ◌-◌, ◌^◌, min, Result, Ok, Err}
use Rattle.pt_tree.specs.declared.faults.TreeFault.{TreeFault}
use Rattle.pt_tree.specs.declared.faults.TreeFault.TheVariants.{Device, Memory}

-- where a count of failures stays
abbrev pub greatest_count : ℕ
greatest_count = 2 ^ 64 - 1

-- the count rose, or stood at its greatest value
abbrev pub HasRisen : ℕ → ℕ → Type 0
HasRisen old new = min (old + 1) greatest_count ≤ new

-- a failure of the device is counted, and nothing else is
abbrev pub IsCounted : {T : Type 0} → ℕ → ℕ → Result T TreeFault → Type 0
IsCounted old new (Ok x) = new ≡ old
IsCounted old new (Err Device) = HasRisen old new
IsCounted old new (Err Memory) = new ≡ old

-- the number of calls, whatever it was, is one more
abbrev pub IsOneMoreCall : (ℕ → Type 0) → (ℕ → Type 0) → Type 0
IsOneMoreCall before after = (n : ℕ) → before n → after (n + 1)

-- the number of calls, whatever it was, is the same
abbrev pub AreAsManyCalls : (ℕ → Type 0) → (ℕ → Type 0) → Type 0
AreAsManyCalls before after = (n : ℕ) → before n → after n
