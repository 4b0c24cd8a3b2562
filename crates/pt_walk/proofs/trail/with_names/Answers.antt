use Rattle.std.proofs.Common.{◌≡◌, ◌++◌, length, take, arith, ◌∙◌, ap}
use Rattle.std.specs.Prelude.{reverse}
use Rattle.std.proofs.Math.Seq.{take-length}
use Rattle.pt_walk.specs.Trail.{names_to}
use Rattle.pt_walk.proofs.trail.with_names.Goals as goal

pub returns : goal.returns
returns c =
    let front = c.args.frames.now in
    let whole : c.loop-frame.frame-index ≡ length front = omega (arith, c.loop-frame-test.false, c.loop-frame.auto.frame-index-end) in
    c.loop-frame.invariant
    ∙ ap (λ l. c.args.above ++ names_to (reverse l)) (ap (λ k. take k front) whole ∙ take-length front)
