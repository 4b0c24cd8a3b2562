-- What of an object's files is compared.
use Rattle.std.specs.Prelude.{ℕ, List, codes}
use Rattle.pt_audit.specs.declared.compare_by.CompareBy.{CompareBy}
use Rattle.pt_audit.specs.declared.compare_by.CompareBy.TheVariants.{Bytes, Lengths}

-- what lines say of an object that fits
abbrev pub fitting_word : CompareBy → List ℕ
fitting_word Bytes = codes "same"
fitting_word Lengths = codes "alike"
