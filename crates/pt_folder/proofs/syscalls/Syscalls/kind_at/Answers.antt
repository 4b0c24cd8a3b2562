use Rattle.std.proofs.Common.{rules}
use Rattle.pt_folder.proofs.syscalls.Syscalls.kind_at.Goals as goal

pub returns-in-Ok-clause-asked : goal.returns-in-Ok-clause-asked
returns-in-Ok-clause-asked g c = search rules
