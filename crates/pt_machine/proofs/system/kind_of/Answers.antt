use Rattle.std.proofs.Common.{rules}
use Rattle.pt_machine.proofs.system.kind_of.Goals as goal

pub returns-else-is_dir : goal.returns-else-is_dir
returns-else-is_dir c = search rules
