use Rattle.pt_plan.proofs.Kept.{faults_leave_what_is_kept}
use Rattle.pt_plan.proofs.laws.faults_leave_what_is_kept.Goals as goal

pub returns : goal.returns
returns c = faults_leave_what_is_kept
