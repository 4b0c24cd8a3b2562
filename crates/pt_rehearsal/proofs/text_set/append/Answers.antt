use Rattle.std.proofs.Common.{◌∙◌, ◌++◌, ◌∷◌, [], ℕ, List, ap, append_assoc}
use Rattle.pt_rehearsal.specs.Buckets.{texts_in}
use Rattle.pt_rehearsal.proofs.Packed.{texts_more}
use Rattle.pt_rehearsal.proofs.text_set.append.Goals as goal

pub returns-in-Ok-clause-ok : goal.returns-in-Ok-clause-ok
returns-in-Ok-clause-ok c =
    let begun = c.in_ok-push.ensures.items ∙ ap (λ (l : List ℕ). l ++ 0 ∷ []) c.in_ok-reserve_exact.ensures.items in
    ap texts_in (c.in-Ok.ensures.items ∙ ap (λ (l : List ℕ). l ++ c.args.text.now) begun ∙ append_assoc c.args.bucket.now.items (0 ∷ []) c.args.text.now)
    ∙ texts_more c.args.bucket.now.items c.args.text.now c.requires
