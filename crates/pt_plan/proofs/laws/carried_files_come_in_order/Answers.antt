use Rattle.pt_plan.proofs.CarriedFiles.{carried_files_come_in_order}
use Rattle.pt_plan.proofs.laws.carried_files_come_in_order.Goals as goal

pub returns : goal.returns
returns c = carried_files_come_in_order
