use Rattle.pt_run_tests.proofs.WorkedRuns as worked
use Rattle.pt_run_tests.proofs.worked_stores.turns.Goals as goal

pub returns-clause-first : goal.returns-clause-first
returns-clause-first c = worked.work_of_first_runs

pub returns-clause-second : goal.returns-clause-second
returns-clause-second c = worked.work_of_second_run

pub returns-clause-tuples : goal.returns-clause-tuples
returns-clause-tuples c = worked.work_with_other_tuples

pub returns-clause-skips : goal.returns-clause-skips
returns-clause-skips c = worked.work_of_skips

pub returns-clause-gathering : goal.returns-clause-gathering
returns-clause-gathering c = worked.work_of_gathering
