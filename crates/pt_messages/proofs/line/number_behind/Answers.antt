use Rattle.std.proofs.Common.{◌∙◌, ap}
use Rattle.std.specs.Option.{option_map_or}
use Rattle.std.specs.Prelude.{None, Some}
use Rattle.pt_messages.proofs.CutTexts.{splits_first}
use Rattle.pt_messages.specs.Cuts.{Parts}
use Rattle.pt_messages.specs.LineCounts.{number_before_comma}
use Rattle.pt_messages.proofs.line.number_behind.Goals as goal

pub returns-in-Some : goal.returns-in-Some
returns-in-Some c =
    c.number_before_comma.ensures ∙ ap (λ found. option_map_or (λ (parts : Parts). number_before_comma parts.1) found 0)
    (splits_first c.args.key.now c.args.rest.now (Some (c.in-Some.field-0-0, c.in-Some.after)) c.in-Some.ensures.cases)

pub returns-in-None : goal.returns-in-None
returns-in-None c =
    ap (λ found. option_map_or (λ (parts : Parts). number_before_comma parts.1) found 0)
    (splits_first c.args.key.now c.args.rest.now None c.in-None.ensures.cases)
