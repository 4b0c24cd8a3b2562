use Rattle.pt_run_tests.proofs.WorkedObjects as worked
use Rattle.pt_run_tests.proofs.worked_objects.shared_folders.Goals as goal

pub returns : goal.returns
returns c = worked.shared_folders
