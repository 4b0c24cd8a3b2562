use Rattle.std.proofs.Common.{ap, ◌∙◌}
use Rattle.pt_check.specs.Visits.{reserved_by}
use Rattle.pt_name.specs.Identifying.{identification_of}
use Rattle.pt_name.specs.Share.{Portion}
use Rattle.pt_check.proofs.judging.reserved_below.Goals as goal

pub returns-in-Ok : goal.returns-in-Ok
returns-in-Ok c =
    c.reserved_by.ensures ∙ ap reserved_by (c.in-Ok.ensures.says ∙ ap (λ (s : Portion). identification_of c.args.layout s c.args.prefix.now c.args.below.now)
    c.whole.ensures)
