use Rattle.std.proofs.Common.{◌≡◌, ◌∙◌, Bool, List, ℕ, ap, subst}
use Rattle.std.specs.Prelude.{OnOk}
use Rattle.pt_rehearsal.specs.Texts.{has, with_text}
use Rattle.pt_rehearsal.proofs.text_set.TextSet.put.Goals as goal
use Rattle.pt_rehearsal.proofs.text_set.TextSet.put.Goals.{then-self-len+in_ok-grow, else-self-len}

pub returns-clause-ok : goal.returns-clause-ok
returns-clause-ok c =
    let same : has c.if-self-len.self ≡ has c.args.self.now = elim c.if-self-len.branch [
      | then-self-len+in_ok-grow w ↦ ap has w.self-is ∙ w.grow.ensures.same
      | else-self-len w ↦ ap has w.self-is
    ] in
    subst (λ (h : List ℕ → Bool). OnOk c.add.result (has c.add.new.self ≡ with_text c.args.text.now h)) same c.add.ensures.ok
