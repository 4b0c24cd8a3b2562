use Rattle.pt_run_tests.proofs.WorkedTurns as worked
use Rattle.pt_run_tests.proofs.worked_stores.single_turns.Goals as goal

pub returns-clause-empty : goal.returns-clause-empty
returns-clause-empty c = worked.empty_store_turns

pub returns-clause-object : goal.returns-clause-object
returns-clause-object c = worked.one_object_turns
