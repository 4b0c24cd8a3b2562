use Rattle.std.proofs.Common.{◌<◌, length, arith, sym, ◌∙◌, ap}
use Rattle.pt_walk.specs.NonShorties.{one_more}
use Rattle.pt_walk.proofs.OneMore.{summary-shorty, summary-other}
use Rattle.pt_walk.proofs.site.non_shorties_of.Goals as goal
use Rattle.pt_walk.proofs.site.non_shorties_of.Goals.{in-Some, in_default}

pub loop-i-preserved : goal.loop-i-preserved
loop-i-preserved c = elim c.match-non_shorty.branch [
  | in-Some w ↦
      let more = summary-other c.args.listing.now c.loop-i.i w.in-Some.kind (sym w.in-Some.ensures) in
      (w.found-is ∙ w.and-found.ensures ∙ ap (λ s. one_more s c.loop-i.i w.in-Some.kind) c.loop-i.invariant.0 ∙ sym more, c.len-i-end.ensures.len)
  | in_default w ↦
      let within : c.loop-i.i < length c.args.listing.now = omega (arith, c.len-i-end.ensures.len) in
      let same = summary-shorty c.args.listing.now c.loop-i.i within (sym c.non_shorty.ensures ∙ w.in_default.is) in
      (w.found-is ∙ c.loop-i.invariant.0 ∙ sym same, c.len-i-end.ensures.len)
]
