use Rattle.pt_run_tests.proofs.WorkedObjects as worked
use Rattle.pt_run_tests.proofs.worked_objects.root.Goals as goal

pub returns : goal.returns
returns c = worked.root_stands
