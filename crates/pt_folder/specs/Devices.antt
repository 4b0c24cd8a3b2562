-- Folders as devices.
use Rattle.std.specs.Prelude.{◌≡◌, ℕ, ◌%◌, ◌^◌}

-- it was called so many times, as its counter that wraps tells
abbrev pub was_called : ℕ → ℕ → Type 0
was_called calls n = n % 2 ^ 64 ≡ calls
