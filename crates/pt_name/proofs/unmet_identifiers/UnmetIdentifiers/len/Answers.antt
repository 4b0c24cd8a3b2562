use Rattle.std.proofs.Common.{◌∙◌, ap, length, sym}
use Rattle.pt_name.specs.Unmet.{ids_of}
use Rattle.pt_name.proofs.StillUnmet.{length-unmet_flagged}
use Rattle.pt_name.proofs.unmet_identifiers.UnmetIdentifiers.len.Goals as goal

pub returns : goal.returns
returns c = ap length c.as_slice.ensures.value ∙ sym (length-unmet_flagged (ids_of c.self.inside.list) c.self.inside.flags.items)
    ∙ ap length c.self.view_is
