use Rattle.std.proofs.Common.{refl, take, ap}
use Rattle.pt_walk.specs.Trail.{names_to}
use Rattle.pt_scan.proofs.ObjectPaths.{before_within, own_is}
use Rattle.pt_scan.proofs.reading.logical_path.Goals as goal

pub overflow_sub-len : goal.overflow_sub-len
overflow_sub-len c = before_within c.args.object.now c.args.trail.now _ _ c.requires.there.site c.len.ensures.len c.names_before.ensures

pub returns : goal.returns
returns c =
    let own = own_is c.args.object.now c.args.trail.now c.len.result c.names_before.result _ c.requires.there.site c.len.ensures.len c.names_before.ensures refl
    in
    rw (ap (λ k. names_to (take k c.args.trail.now)) own) at c.inner_path.ensures
