use Rattle.std.proofs.Common.{rules}
use Rattle.pt_make.proofs.root.after_file.Goals as goal

pub returns-else-file-eq-LAST_FILE : goal.returns-else-file-eq-LAST_FILE
returns-else-file-eq-LAST_FILE c = search rules
