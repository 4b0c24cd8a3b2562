use Rattle.pt_run_tests.proofs.WorkedRuns as worked
use Rattle.pt_run_tests.proofs.worked_stores.logs.Goals as goal

pub returns-clause-empty : goal.returns-clause-empty
returns-clause-empty c = worked.empty_store_log

pub returns-clause-strays : goal.returns-clause-strays
returns-clause-strays c = worked.strays_log

pub returns-clause-names : goal.returns-clause-names
returns-clause-names c = worked.bad_names_log

pub returns-clause-divided : goal.returns-clause-divided
returns-clause-divided c = worked.divided_log

pub returns-clause-reserved : goal.returns-clause-reserved
returns-clause-reserved c = worked.extensions_log
