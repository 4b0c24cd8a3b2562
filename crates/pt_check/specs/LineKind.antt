-- What a line of a check tells, as a number and a word.
use Rattle.std.specs.Prelude.{ℕ, List, codes}
use Rattle.pt_check.specs.Trouble.{trouble_number, trouble_word}
use Rattle.pt_check.specs.declared.line_kind.LineKind.{LineKind}
use Rattle.pt_check.specs.declared.line_kind.LineKind.TheVariants as kind

-- so many kinds there are
abbrev pub kinds : ℕ
kinds = 21

-- the number of a kind, below that
abbrev pub kind_number : LineKind → ℕ
kind_number kind.Unreadable = 0
kind_number (kind.Troubled trouble) = trouble_number trouble

-- its word in a line
abbrev pub kind_word : LineKind → List ℕ
kind_word kind.Unreadable = codes "unreadable"
kind_word (kind.Troubled trouble) = trouble_word trouble
