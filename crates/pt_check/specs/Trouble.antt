-- The numbers and words of what a check tells.
use Rattle.std.specs.Prelude.{ℕ, List, codes}
use Rattle.pt_walk.specs.Cause.{cause_number, cause_word}
use Rattle.pt_check.specs.declared.trouble.Trouble.{Trouble}
use Rattle.pt_check.specs.declared.trouble.Trouble.TheVariants as trouble

-- the number of a trouble
abbrev pub trouble_number : Trouble → ℕ
trouble_number (trouble.Skipped why) = cause_number why
trouble_number trouble.Desktop = 10
trouble_number trouble.Long = 11
trouble_number trouble.Deep = 12
trouble_number trouble.Missing = 13
trouble_number trouble.Spelling = 14
trouble_number trouble.Prefix = 15
trouble_number trouble.Doubtful = 16
trouble_number trouble.Many = 17
trouble_number trouble.Large = 18
trouble_number trouble.Place = 19
trouble_number trouble.Width = 20

-- its word in a line
abbrev pub trouble_word : Trouble → List ℕ
trouble_word (trouble.Skipped why) = cause_word why
trouble_word trouble.Desktop = codes "desktop"
trouble_word trouble.Long = codes "long"
trouble_word trouble.Deep = codes "deep"
trouble_word trouble.Missing = codes "missing"
trouble_word trouble.Spelling = codes "spelling"
trouble_word trouble.Prefix = codes "prefix"
trouble_word trouble.Doubtful = codes "doubtful"
trouble_word trouble.Many = codes "many"
trouble_word trouble.Large = codes "large"
trouble_word trouble.Place = codes "place"
trouble_word trouble.Width = codes "width"
