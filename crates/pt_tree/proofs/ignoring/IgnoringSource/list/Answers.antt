use Rattle.pt_tree.proofs.ToldWithout.{can_list, is_listed, lists_as}
use Rattle.pt_tree.proofs.ignoring.IgnoringSource.list.Goals as goal

pub list-requires : goal.list-requires
list-requires g c = can_list _ _ _ c.requires

pub returns-clause-listing : goal.returns-clause-listing
returns-clause-listing g c = rw c.take_out.ensures.left (is_listed _ _ _ _ c.requires c.in_ok-listing.ensures.listing)

pub returns-clause-fails : goal.returns-clause-fails
returns-clause-fails g c = rw c.take_out.ensures.same (lists_as _ _ _ _ _ c.in_ok-listing.ensures.fails)
