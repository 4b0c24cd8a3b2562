use Rattle.pt_messages.proofs.Explained.{explained}
use Rattle.pt_messages.proofs.reason.of_fault.Goals as goal

pub returns : goal.returns
returns g c = rw c.of.ensures (explained _ c.find.result c.find.ensures)
