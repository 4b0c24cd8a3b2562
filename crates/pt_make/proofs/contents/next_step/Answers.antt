use Rattle.pt_make.proofs.NextParts.{is_next_folder}
use Rattle.pt_make.proofs.contents.next_step.Goals as goal

pub returns-then-position-names : goal.returns-then-position-names
returns-then-position-names c = is_next_folder _ _ _ _ _ c.in-Some.ensures c.if-not-is_stored.ensures c.len-names.ensures c.len-names.type_inv
    c.if-position-names.true c.in_ok-path.ensures
