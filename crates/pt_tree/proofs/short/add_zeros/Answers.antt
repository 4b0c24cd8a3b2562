use Rattle.std.proofs.Common.{rules}
use Rattle.pt_tree.proofs.short.add_zeros.Goals as goal

pub returns-clause-within : goal.returns-clause-within
returns-clause-within c = search rules
