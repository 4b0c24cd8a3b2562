-- The limits of a run.
use Rattle.std.specs.Prelude.{ℕ, ◌^◌, ◌==◌, ◌||◌, ◌&&◌, Bool, cond, nat_lt, not, Result, Ok, Err}
use Rattle.pt_walk.specs.declared.limits.LimitsFault.{LimitsFault}
use Rattle.pt_walk.specs.declared.limits.LimitsFault.TheVariants as fault

-- the files of one object, the bytes of one logical path, the depth of a listed directory, the bytes of one file, the turns of one run
pub record Bounds : Type 0 where
  pub files : ℕ
  pub path_bytes : ℕ
  pub depth : ℕ
  pub file_bytes : ℕ
  pub turns : ℕ

-- one of them is 0
abbrev pub has_zero : Bounds → Bool
has_zero bounds = (bounds.files == 0) || (bounds.path_bytes == 0) || (bounds.depth == 0)
    || (bounds.file_bytes == 0) || (bounds.turns == 0)

-- one of them is above its greatest value
abbrev pub is_too_large : Bounds → Bool
is_too_large bounds =
    nat_lt 1000000 bounds.files || nat_lt 4000 bounds.path_bytes || nat_lt 600 bounds.depth
    || nat_lt (2 ^ 43) bounds.file_bytes || nat_lt (2 ^ 40) bounds.turns

-- the limits are in range: none is zero, and none over its greatest value
abbrev pub are_limits : Bounds → Bool
are_limits bounds = not (has_zero bounds) && not (is_too_large bounds)

-- the limits with these bounds, or why there are none: the zero is told first
abbrev pub limits_of : Bounds → Result Bounds LimitsFault
limits_of bounds =
    cond (has_zero bounds) (Err fault.Zero)
    (cond (is_too_large bounds) (Err fault.TooLarge) (Ok bounds))

-- the number of a refusal
abbrev pub limits_number : LimitsFault → ℕ
limits_number fault.Zero = 1
limits_number fault.TooLarge = 2

-- each limit at its greatest value
abbrev pub greatest_limits : Bounds
greatest_limits =
    record { files = 1000000; path_bytes = 4000; depth = 600; file_bytes = 2 ^ 43; turns = 2 ^ 40 }
