-- What an audit finds at an object's place.
use Rattle.std.specs.Prelude.{ℕ, Bool, true, false, List, codes}
use Rattle.pt_compare.specs.declared.difference.Comparison.{Comparison}
use Rattle.pt_compare.specs.declared.difference.Comparison.TheVariants.{Absent, Differs, Same}
use Rattle.pt_compare.specs.declared.difference.Why.{Why}
use Rattle.pt_compare.specs.declared.difference.Why.TheVariants.{Bytes, Extra, Kind, Missing}

-- the word of what is wrong
abbrev pub why_word : Why → List ℕ
why_word Missing = codes "missing"
why_word Extra = codes "extra"
why_word Kind = codes "kind"
why_word Bytes = codes "bytes"

-- no difference was found
abbrev pub is_same : Comparison → Bool
is_same Same = true
is_same Absent = false
is_same (Differs difference) = false
