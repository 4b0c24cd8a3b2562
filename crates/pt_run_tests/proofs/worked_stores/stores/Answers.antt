use Rattle.pt_run_tests.proofs.WorkedRuns as worked
use Rattle.pt_run_tests.proofs.worked_stores.stores.Goals as goal

pub returns : goal.returns
returns c = worked.stores_are_known
