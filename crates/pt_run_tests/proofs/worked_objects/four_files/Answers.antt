use Rattle.pt_run_tests.proofs.WorkedObjects as worked
use Rattle.pt_run_tests.proofs.worked_objects.four_files.Goals as goal

pub returns : goal.returns
returns c = worked.four_files_stored
