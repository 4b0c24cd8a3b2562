use Rattle.std.proofs.Common.{rules}
use Rattle.std.specs.Prelude.{not}
use Rattle.std.proofs.lemmas.Fn.{filter_same}
use Rattle.pt_tree.specs.Listing.{Item, is_among}
use Rattle.pt_tree.proofs.Leaving.{left_in-rises}
use Rattle.pt_tree.proofs.listing.Listing.leave_out.Goals as goal

pub invariant_of-self : goal.invariant_of-self
invariant_of-self c =
    rw (filter_same _ (λ (item : Item). not (is_among c.args.names.now item.0)) _ (λ x b f' k. search rules) _ _ c.retain.ensures.filtered)
    (left_in-rises c.args.names.now _ c.self.invariant)

pub returns : goal.returns
returns c = rw (← c.self.view_is) (filter_same _ (λ (item : Item). not (is_among c.args.names.now item.0)) _ (λ x b f' k. search rules) _ _
    c.retain.ensures.filtered)
