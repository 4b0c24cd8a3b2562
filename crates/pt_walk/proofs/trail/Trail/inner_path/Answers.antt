use Rattle.std.proofs.Common.{◌≡◌, ◌++◌, ◌-◌, length, take, drop, rules, arith, ◌∙◌, ap}
use Rattle.std.specs.Prelude.{reverse}
use Rattle.std.proofs.lemmas.List.{length-drop, take_all}
use Rattle.pt_walk.specs.Trail.{names_to}
use Rattle.pt_walk.proofs.LastFrame.{names_to-inner}
use Rattle.pt_walk.proofs.trail.Trail.inner_path.Goals as goal

pub returns : goal.returns
returns c =
    let len : c.len.result ≡ length c.self.inside.frames.items = search rules in
    let all = c.deref.result.now in
    let outer = c.saturating_sub-outer.result in
    let short = length-drop outer all in
    let names : c.in_ok-path.path ++ names_to (reverse (take (length all - outer) (drop outer all))) ≡ names_to (take c.args.listings c.args.self.now) =
    ap (λ p. p ++ names_to (reverse (take (length all - outer) (drop outer all)))) c.in_ok-path.ensures
    ∙ ap (λ l. names_to (reverse l)) (take_all (length all - outer) (drop outer all) (omega (arith, short)))
    ∙ ap (λ l. names_to (reverse (drop outer l))) c.deref.ensures.value
    ∙ ap (λ k. names_to (reverse (drop k c.self.inside.frames.items))) c.saturating_sub-outer.ensures
    ∙ names_to-inner c.len.result c.args.listings c.self.inside.frames.items c.args.self.now len c.self.view_is in
    rw names at c.with_names.ensures
