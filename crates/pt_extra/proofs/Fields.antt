-- That a walk holds its fields, and nothing else.
use Rattle.std.proofs.Common.{refl}
use Rattle.pt_extra.specs.WalkFields.{FieldsAlone, WalkHoldsFieldsAlone}

pub walk_holds_fields_alone : {S R L E : Type 0} → WalkHoldsFieldsAlone S R L E
walk_holds_fields_alone = FieldsAlone (λ walk. refl)
