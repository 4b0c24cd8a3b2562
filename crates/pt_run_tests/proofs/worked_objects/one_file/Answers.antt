use Rattle.pt_run_tests.proofs.WorkedObjects as worked
use Rattle.pt_run_tests.proofs.worked_objects.one_file.Goals as goal

pub returns-clause-object : goal.returns-clause-object
returns-clause-object c = worked.one_file_object

pub returns-clause-script : goal.returns-clause-script
returns-clause-script c = worked.one_file_script
