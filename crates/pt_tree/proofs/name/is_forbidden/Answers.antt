use Rattle.std.proofs.Common.{rules}
use Rattle.pt_tree.proofs.name.is_forbidden.Goals as goal

pub returns-else-eq : goal.returns-else-eq
returns-else-eq c = search rules
