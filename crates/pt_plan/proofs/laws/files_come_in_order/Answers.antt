use Rattle.pt_plan.proofs.FilesInOrder.{files_come_in_order}
use Rattle.pt_plan.proofs.laws.files_come_in_order.Goals as goal

pub returns : goal.returns
returns c = files_come_in_order
