use Rattle.std.proofs.Common.{rules}
use Rattle.pt_tree.specs.Dest.{IsKindAt}
use Rattle.pt_audit.proofs.empty_dest.EmptyDestDest.kind.Goals as goal

pub returns-else-is_empty-clause-kind : goal.returns-else-is_empty-clause-kind
unfolding IsKindAt
returns-else-is_empty-clause-kind c = search rules
