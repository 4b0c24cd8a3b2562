use Rattle.std.proofs.Common.{rules}
use Rattle.pt_tree.proofs.name_path.NamePath.child.Goals as goal

pub returns : goal.returns
returns c = search rules
