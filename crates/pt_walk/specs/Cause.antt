-- The numbers and the words of the causes.
use Rattle.std.specs.Prelude.{ℕ, List, codes}
use Rattle.pt_walk.specs.declared.cause.Cause.{Cause}
use Rattle.pt_walk.specs.declared.cause.Cause.TheVariants as cause

-- the number of a cause
abbrev pub cause_number : Cause → ℕ
cause_number cause.Root = 1
cause_number cause.Empty = 2
cause_number cause.Split = 3
cause_number cause.Past = 4
cause_number cause.Name = 5
cause_number cause.Utf8 = 6
cause_number cause.Other = 7
cause_number cause.Limit = 8
cause_number cause.Reserved = 9

-- the word of a cause, as the log has it
abbrev pub cause_word : Cause → List ℕ
cause_word cause.Root = codes "root"
cause_word cause.Empty = codes "empty"
cause_word cause.Split = codes "split"
cause_word cause.Past = codes "past"
cause_word cause.Name = codes "name"
cause_word cause.Utf8 = codes "utf8"
cause_word cause.Other = codes "other"
cause_word cause.Limit = codes "limit"
cause_word cause.Reserved = codes "reserved"
