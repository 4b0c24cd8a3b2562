use Rattle.std.proofs.Common.{rules}
use Rattle.pt_folder.proofs.folder.is_absent.Goals as goal

pub returns-in-NotFound : goal.returns-in-NotFound
returns-in-NotFound c = search rules
