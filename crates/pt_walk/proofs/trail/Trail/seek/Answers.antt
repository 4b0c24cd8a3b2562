use Rattle.std.proofs.Common.{◌≡◌, length, rules}
use Rattle.pt_walk.proofs.Places.{sought-set, is_trail-sought}
use Rattle.pt_walk.proofs.trail.Trail.seek.Goals as goal

pub invariant_of-self : goal.invariant_of-self
invariant_of-self c =
    let len : c.len-last.result ≡ length c.self.inside.frames.items = search rules in
    rw (sought-set c.len-last.result c.self.inside.frames.items c.args.self.now c.args.place c.index_mut.result.now len c.self.view_is c.requires
    c.index_mut.ensures.value)
    (is_trail-sought c.args.self.now c.args.place (rw c.self.view_is at c.self.invariant) c.requires)

pub returns : goal.returns
returns c =
    let len : c.len-last.result ≡ length c.self.inside.frames.items = search rules in
    sought-set c.len-last.result c.self.inside.frames.items c.args.self.now c.args.place c.index_mut.result.now len c.self.view_is c.requires
    c.index_mut.ensures.value
