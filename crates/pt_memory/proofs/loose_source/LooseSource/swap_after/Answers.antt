use Rattle.std.proofs.Common.{ap, ◌∙◌}
use Rattle.std.specs.Prelude.{not}
use Rattle.pt_memory.specs.LooseSource.{after_swap, loose_state}
use Rattle.pt_memory.proofs.Swaps.{not_refused}
use Rattle.pt_memory.proofs.loose_source.LooseSource.swap_after.Goals as goal

pub returns-clause-answer : goal.returns-clause-answer
returns-clause-answer c =
    let old = loose_state c.args.self.now in
    not_refused old.source.tree c.args.path.now c.file.result _ c.file.ensures (c.is_none.ensures ∙ ap not c.if-is_none.false)
    (c.set.ensures ∙ (λ i. after_swap c.args.calls (c.in_ok-path.ensures i) (c.in-Ok.ensures.items i) old))
