use Rattle.std.proofs.Common.{◌≡◌, ◌∙◌, Some, sym}
use Rattle.pt_name.proofs.Readings.{reading_from_Reads}
use Rattle.pt_name.proofs.laws.one_reading.Goals as goal

pub returns : goal.returns
returns c = λ text a b first second.
    let e : Some a ≡ Some b = sym (reading_from_Reads text a first) ∙ reading_from_Reads text b second in
    cc e
