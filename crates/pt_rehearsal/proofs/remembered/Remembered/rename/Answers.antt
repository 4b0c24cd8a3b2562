use Rattle.std.proofs.Common.{rules}
use Rattle.pt_rehearsal.proofs.remembered.Remembered.rename.Goals as goal

pub returns-in-Standing-clause-ok : goal.returns-in-Standing-clause-ok
returns-in-Standing-clause-ok c = search rules
