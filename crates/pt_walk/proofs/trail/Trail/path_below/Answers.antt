use Rattle.std.proofs.Common.{◌≡◌, length, take, rules, ◌∙◌, ap}
use Rattle.std.specs.Prelude.{reverse}
use Rattle.pt_walk.specs.Trail.{names_to, trail_path}
use Rattle.pt_walk.proofs.LastFrame.{names_to-front}
use Rattle.pt_walk.proofs.trail.Trail.path_below.Goals as goal

pub returns : goal.returns
returns c =
    let len : c.len.result ≡ length c.self.inside.frames.items = search rules in
    let names : names_to (reverse (take c.saturating_sub-outer.result c.deref.result.now)) ≡ trail_path c.args.self.now =
    ap (λ l. names_to (reverse (take c.saturating_sub-outer.result l))) c.deref.ensures.value
    ∙ ap (λ k. names_to (reverse (take k c.self.inside.frames.items))) c.saturating_sub-outer.ensures
    ∙ names_to-front c.len.result c.self.inside.frames.items c.args.self.now len c.self.view_is in
    rw names at c.with_names.ensures
