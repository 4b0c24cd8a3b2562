use Rattle.std.proofs.Common.{◌≡◌, length, rules, arith}
use Rattle.pt_walk.proofs.Places.{advanced-set, is_trail-advanced, place_within}
use Rattle.pt_walk.proofs.trail.Trail.advance.Goals as goal

pub prove-unreachable-requires : goal.prove-unreachable-requires
prove-unreachable-requires c =
    let len : c.len-last.result ≡ length c.self.inside.frames.items = search rules in
    omega (
      arith,
      place_within c.len-last.result c.self.inside.frames.items c.args.self.now c.index_mut-frame.result.now len c.self.view_is c.requires
          c.index_mut-frame.ensures.value,
      c.len.ensures.len,
    )

pub invariant_of-self : goal.invariant_of-self
invariant_of-self c =
    let len : c.len-last.result ≡ length c.self.inside.frames.items = search rules in
    rw (advanced-set c.len-last.result c.self.inside.frames.items c.args.self.now c.index_mut-frame.result.now len c.self.view_is c.requires
    c.index_mut-frame.ensures.value)
    (is_trail-advanced c.args.self.now (rw c.self.view_is at c.self.invariant) c.requires)

pub returns : goal.returns
returns c =
    let len : c.len-last.result ≡ length c.self.inside.frames.items = search rules in
    advanced-set c.len-last.result c.self.inside.frames.items c.args.self.now c.index_mut-frame.result.now len c.self.view_is c.requires
    c.index_mut-frame.ensures.value
