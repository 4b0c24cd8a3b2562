use Rattle.std.proofs.Common.{rules}
use Rattle.pt_tree.proofs.name_path.NamePath.push_to_copy.Goals as goal

pub returns-clause-ok : goal.returns-clause-ok
returns-clause-ok c = search rules
