use Rattle.pt_plan.proofs.WholeObjects.{carried_have_their_files}
use Rattle.pt_plan.proofs.laws.carried_have_their_files.Goals as goal

pub returns : goal.returns
returns c = carried_have_their_files
