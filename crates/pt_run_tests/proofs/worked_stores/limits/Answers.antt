use Rattle.pt_run_tests.proofs.WorkedRuns as worked
use Rattle.pt_run_tests.proofs.worked_stores.limits.Goals as goal

pub returns-clause-first : goal.returns-clause-first
returns-clause-first c = worked.first_bad_entry_counts

pub returns-clause-lengths : goal.returns-clause-lengths
returns-clause-lengths c = worked.lengths_are_limited

pub returns-clause-depths : goal.returns-clause-depths
returns-clause-depths c = worked.depths_are_limited

pub returns-clause-chains : goal.returns-clause-chains
returns-clause-chains c = worked.depths_of_chains
