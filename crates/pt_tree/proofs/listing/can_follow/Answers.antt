use Rattle.std.proofs.Common.{◌∙◌, sym}
use Rattle.pt_tree.proofs.Rising.{can_follow-last}
use Rattle.pt_tree.proofs.listing.can_follow.Goals as goal

pub returns-in-Some : goal.returns-in-Some
returns-in-Some c =
    c.lt.ensures
    ∙ sym (can_follow-last c.args.items.now c.args.name.now c.in-Some.field-0.now (sym c.in-Some.ensures.value))
