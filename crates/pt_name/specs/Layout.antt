-- Which numbers a layout may have, and what the others are refused as.
use Rattle.std.specs.Prelude.{ℕ, ◌*◌, ◌==◌, ◌||◌, not, nat_lt, if◌then◌else◌, Result, Ok, Err}
use Rattle.std.specs.Bool.{beq}
use Rattle.pt_name.specs.Tuples.{Tuples}
use Rattle.pt_name.specs.declared.layout.LayoutFault.{LayoutFault}
use Rattle.pt_name.specs.declared.layout.LayoutFault.TheVariants as fault

-- the tuples of the layout with these numbers, or the first of the three refusals that applies
abbrev pub layout_of : ℕ → ℕ → Result Tuples LayoutFault
layout_of size count =
    if nat_lt 32 size || nat_lt 32 count then Err fault.OutOfRange
    else if not (beq (size == 0) (count == 0)) then Err fault.OneZero
    else if nat_lt 64 (size * count) then Err fault.TooLong
    else Ok (record { size = size; count = count })

-- the number of a refusal
abbrev pub layout_number : LayoutFault → ℕ
layout_number fault.OutOfRange = 1
layout_number fault.OneZero = 2
layout_number fault.TooLong = 3
