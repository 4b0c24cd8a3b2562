use Rattle.std.proofs.Common.{rules}
use Rattle.pt_memory.proofs.changes.edit_file.Goals as goal

pub returns-in-Append-clause-ok : goal.returns-in-Append-clause-ok
returns-in-Append-clause-ok c = search rules

pub returns-in-Append-clause-err : goal.returns-in-Append-clause-err
returns-in-Append-clause-err c = search rules
