use Rattle.std.proofs.Common.{rules}
use Rattle.pt_tree.proofs.name_path.put_first.Goals as goal

pub returns-clause-bytes : goal.returns-clause-bytes
returns-clause-bytes c = search rules
