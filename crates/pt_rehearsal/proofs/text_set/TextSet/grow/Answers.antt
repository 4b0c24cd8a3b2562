use Rattle.std.proofs.Common.{◌≡◌, ◌∙◌, ap, arith, length}
use Rattle.pt_rehearsal.specs.Texts.{has}
use Rattle.pt_rehearsal.proofs.Divided.{rebased_by}
use Rattle.pt_rehearsal.proofs.text_set.TextSet.grow.Goals as goal
use Rattle.pt_rehearsal.proofs.text_set.TextSet.grow.Goals.{then-count-self, else-count-self}

pub returns-clause-same : goal.returns-clause-same
returns-clause-same c =
    let me = c.args.self.now in
    let long : c.len-count.result ≡ length me.buckets.items = omega (arith, c.len-count.ensures) in
    elim c.if-count-self.branch [
      | then-count-self w ↦ c.divide.ensures.same ∙ ap has w.self-is ∙ rebased_by me.base c.len-count.result me.buckets.items me.based long w.if-count-self.true
      | else-count-self w ↦ c.divide.ensures.same ∙ ap has w.self-is
    ]
