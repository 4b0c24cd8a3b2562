-- What a destination was told when it was made.
use Rattle.std.specs.Prelude.{◌≡◌, ◌^◌, ◌-◌, ℕ, Bool}

-- the greatest length that there is
abbrev pub greatest_length : ℕ
greatest_length = 2 ^ 64 - 1

-- the same longest path, and the same choice whether files are put onto the disk
abbrev pub IsSetAs : ℕ → Bool → ℕ → Bool → Type 0
IsSetAs longest synced new_longest new_synced = (new_longest ≡ longest) × (new_synced ≡ synced)
