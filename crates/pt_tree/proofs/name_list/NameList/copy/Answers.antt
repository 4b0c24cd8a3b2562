use Rattle.std.proofs.Common.{rules}
use Rattle.pt_tree.proofs.name_list.NameList.copy.Goals as goal

pub returns-in_ok-clone-in-Shared : goal.returns-in_ok-clone-in-Shared
returns-in_ok-clone-in-Shared c = search rules
