-- How many lines told of what the store lacks.
use Rattle.std.specs.Prelude.{◌+◌, ℕ, List, [], ◌∷◌, min}
use Rattle.pt_extra.specs.Lines.{ExtraFinding, Extra, Stray, Unlisted}
use Rattle.pt_extra.specs.declared.numbers.ExtraNumbers.{ExtraNumbers}
use Rattle.pt_tree.specs.Failures.{greatest_count}

-- nothing is counted
abbrev pub no_numbers : ExtraNumbers
no_numbers = record { extra = 0; stray = 0 }

-- one more than this, up to the greatest number that is counted
abbrev pub one_more : ℕ → ℕ
one_more n = min (n + 1) greatest_count

-- a line more
abbrev pub with_finding : ExtraFinding → ExtraNumbers → ExtraNumbers
with_finding (Stray to) numbers = record numbers { stray = one_more numbers.stray }
with_finding (Unlisted reason to) numbers = record numbers { stray = one_more numbers.stray }
with_finding (Extra id to) numbers = record numbers { extra = one_more numbers.extra }

-- so many lines more
abbrev pub with_findings : List ExtraFinding → ExtraNumbers → ExtraNumbers
with_findings [] numbers = numbers
with_findings (finding ∷ findings) numbers = with_findings findings (with_finding finding numbers)
