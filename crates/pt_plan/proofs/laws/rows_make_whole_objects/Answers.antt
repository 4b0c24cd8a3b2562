use Rattle.pt_plan.proofs.Kept.{rows_make_whole_objects}
use Rattle.pt_plan.proofs.laws.rows_make_whole_objects.Goals as goal

pub returns : goal.returns
returns c = rows_make_whole_objects
