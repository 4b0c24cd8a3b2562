use Rattle.pt_run_tests.proofs.WorkedFaults as worked
use Rattle.pt_run_tests.proofs.worked_faults.faults.Goals as goal

pub returns-clause-tuples : goal.returns-clause-tuples
returns-clause-tuples c = worked.one_object_has_tuples

pub returns-clause-stand : goal.returns-clause-stand
returns-clause-stand c = worked.two_tuples_stand

pub returns-clause-rerun : goal.returns-clause-rerun
returns-clause-rerun c = worked.rerun_carries_the_object

pub returns-clause-told : goal.returns-clause-told
returns-clause-told c = worked.empty_store_tells

pub returns-clause-counts : goal.returns-clause-counts
returns-clause-counts c = worked.one_identifier_counts
