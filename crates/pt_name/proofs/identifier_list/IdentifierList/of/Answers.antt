use Rattle.pt_name.proofs.Lists.{lists_as, strict_once}
use Rattle.pt_name.proofs.identifier_list.IdentifierList.of.Goals as goal

pub invariant_of-result : goal.invariant_of-result
invariant_of-result c = strict_once _ _ c.sort_unstable.ensures.sorted c.dedup.ensures.filtered

pub returns : goal.returns
returns c = lists_as _ _ _ c.sort_unstable.ensures.permutation c.dedup.ensures.filtered
