use Rattle.pt_run_tests.proofs.WorkedObjects as worked
use Rattle.pt_run_tests.proofs.worked_objects.no_files.Goals as goal

pub returns : goal.returns
returns c = worked.no_files_paths
