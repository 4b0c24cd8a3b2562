use Rattle.pt_run_tests.proofs.WorkedRuns as worked
use Rattle.pt_run_tests.proofs.worked_stores.objects.Goals as goal

pub returns-clause-empty : goal.returns-clause-empty
returns-clause-empty c = worked.empty_directories_are_counted

pub returns-clause-gathered : goal.returns-clause-gathered
returns-clause-gathered c = worked.divided_sites_are_gathered

pub returns-clause-carried : goal.returns-clause-carried
returns-clause-carried c = worked.one_object_is_carried

pub returns-clause-again : goal.returns-clause-again
returns-clause-again c = worked.second_run_carries_nothing

pub returns-clause-taken : goal.returns-clause-taken
returns-clause-taken c = worked.present_comes_first

pub returns-clause-ways : goal.returns-clause-ways
returns-clause-ways c = worked.ways_are_told

pub returns-clause-roots : goal.returns-clause-roots
returns-clause-roots c = worked.usable_roots_are_told
