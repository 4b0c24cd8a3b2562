use Rattle.pt_run_tests.proofs.WorkedRuns as worked
use Rattle.pt_run_tests.proofs.worked_stores.records.Goals as goal

pub returns-clause-equal : goal.returns-clause-equal
returns-clause-equal c = worked.bound_of_equal_contents

pub returns-clause-gathering : goal.returns-clause-gathering
returns-clause-gathering c = worked.bound_of_gathering

pub returns-clause-none : goal.returns-clause-none
returns-clause-none c = worked.bound_of_empty_store
