use Rattle.pt_run_tests.proofs.WorkedObjects as worked
use Rattle.pt_run_tests.proofs.worked_objects.equal_contents.Goals as goal

pub returns : goal.returns
returns c = worked.equal_contents_paths
