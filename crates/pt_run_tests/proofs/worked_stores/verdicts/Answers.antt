use Rattle.pt_run_tests.proofs.WorkedRuns as worked
use Rattle.pt_run_tests.proofs.worked_stores.verdicts.Goals as goal

pub returns-clause-object : goal.returns-clause-object
returns-clause-object c = worked.one_object_is_named

pub returns-clause-prefix : goal.returns-clause-prefix
returns-clause-prefix c = worked.prefix_is_read
