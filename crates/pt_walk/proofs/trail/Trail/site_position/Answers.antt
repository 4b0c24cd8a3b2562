use Rattle.std.proofs.Common.{◌≡◌, length, rules, ◌∙◌, ap}
use Rattle.pt_walk.proofs.SiteName.{at_around, at_entry}
use Rattle.pt_walk.specs.Sites.{at_of}
use Rattle.pt_walk.specs.Trail.{entry_at, trail_path}
use Rattle.pt_walk.proofs.trail.Trail.site_position.Goals as goal

pub returns-in-Some : goal.returns-in-Some
returns-in-Some c =
    let frames = c.self.inside.frames.items in
    let around = c.index-around.result.now in
    let len : c.len-count.result ≡ length frames = search rules in
    let stands : at_entry (entry_at around) ≡ at_of (trail_path c.args.self.now)
    = at_around c.len-count.result frames c.args.self.now around len c.self.view_is (rw c.self.view_is at c.self.invariant) c.if-count-lt2.false
    c.index-around.ensures in
    c.at_name.ensures ∙ ap at_entry c.in-Some.ensures ∙ stands

pub returns-in-None : goal.returns-in-None
returns-in-None c =
    let frames = c.self.inside.frames.items in
    let around = c.index-around.result.now in
    let len : c.len-count.result ≡ length frames = search rules in
    let stands : at_entry (entry_at around) ≡ at_of (trail_path c.args.self.now)
    = at_around c.len-count.result frames c.args.self.now around len c.self.view_is (rw c.self.view_is at c.self.invariant) c.if-count-lt2.false
    c.index-around.ensures in
    ap at_entry c.in-None.ensures ∙ stands
