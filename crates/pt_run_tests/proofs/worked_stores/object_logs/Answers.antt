use Rattle.pt_run_tests.proofs.WorkedRuns as worked
use Rattle.pt_run_tests.proofs.worked_stores.object_logs.Goals as goal

pub returns-clause-object : goal.returns-clause-object
returns-clause-object c = worked.one_object_log

pub returns-clause-flat : goal.returns-clause-flat
returns-clause-flat c = worked.one_object_flat_log

pub returns-clause-order : goal.returns-clause-order
returns-clause-order c = worked.lines_come_in_order

pub returns-clause-escaped : goal.returns-clause-escaped
returns-clause-escaped c = worked.line_feed_log

pub returns-clause-present : goal.returns-clause-present
returns-clause-present c = worked.one_identifier_flat_log
