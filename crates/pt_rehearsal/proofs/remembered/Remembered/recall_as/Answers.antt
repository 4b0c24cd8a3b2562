use Rattle.std.proofs.Common.{rules}
use Rattle.pt_rehearsal.proofs.remembered.Remembered.recall_as.Goals as goal

pub returns-then-contains : goal.returns-then-contains
returns-then-contains c = search rules
