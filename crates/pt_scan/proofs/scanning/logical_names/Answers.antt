use Rattle.std.proofs.Common.{refl, ◌∙◌}
use Rattle.pt_walk.specs.Trail.{names_to}
use Rattle.pt_scan.proofs.ObjectPaths.{logical_below}
use Rattle.pt_scan.proofs.scanning.logical_names.Goals as goal

pub returns : goal.returns
returns c =
    logical_below c.args.object.now c.args.trail.now c.len-listings.ensures.trail c.requires.there.site c.requires.there.own (names_to c.args.trail.now)
    c.names_before.result refl c.names_before.ensures
    _ _ c.names.result.now _ refl (c.names.ensures ∙ c.requires.names) refl
