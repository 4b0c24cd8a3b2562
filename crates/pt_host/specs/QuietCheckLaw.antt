-- What a check that told nothing says of a run's faults.
use Rattle.std.specs.Prelude.{◌≡◌, ◌≢◌, ◌<◌, true, IfErr, Result, Some}
use Rattle.pt_check.specs.Visits.{Checks, Says, CheckState}
use Rattle.pt_check.specs.declared.numbers.Numbers.{Numbers}
use Rattle.pt_check.specs.declared.wants.Wants.{Wants}
use Rattle.pt_move.specs.Migrates.{Migrates}
use Rattle.pt_plan.specs.DeviceStates.{DeviceStates}
use Rattle.pt_plan.specs.SourceFailures.{FailsAtOpen, FailsOnlyWhereAsked, SourceView}
use Rattle.pt_plan.specs.declared.fault.Fault.{Fault}
use Rattle.pt_plan.specs.declared.fault.Fault.TheVariants as fault
use Rattle.pt_state.specs.declared.job.Job.{Job}
use Rattle.pt_state.specs.declared.job.Report.{Report}
use Rattle.pt_tree.specs.Failing.{failing_paths}
use Rattle.pt_tree.specs.Failures.{greatest_count}
use Rattle.pt_tree.specs.Forest.{Forest}
use Rattle.pt_tree.specs.Source.{tree_in}

-- the source of a run, before it and after it: it tells this tree, and that it fails at the paths of a check's source; no file is open in
-- it at which it fails; and it can count one failure more
pub record IsSourceOf (tree : Forest) (checked : CheckState) (s s' : SourceView) (old new : DeviceStates) : Type 0 where
  pub told : tree_in s.told ≡ Some tree
  pub failing : failing_paths s.failing ≡ checked.failing
  pub reading : FailsAtOpen s → ⊥
  pub fewer : s.failed < greatest_count
  pub failed : old.failures.source ≡ s.failed
  pub failed_since : new.failures.source ≡ s'.failed
  pub fails : FailsOnlyWhereAsked s s'

-- where a check of the whole store read each file whole and told nothing no run over that is halted for such a source
abbrev pub NoRunIsHaltedForSource : Type 0
NoRunIsHaltedForSource =
    (says : Says) (wants : Wants) (tree : Forest) (numbers : Numbers) (a b : CheckState) (job : Job) (s s' : SourceView)
    (old new : DeviceStates) (result : Result Report Fault)
    → Checks says wants tree numbers a b → numbers.told ≡ 0 → wants.reads ≡ true
    → IsSourceOf tree a s s' old new → Migrates job old new result
    → IfErr result (λ why. why ≢ fault.Source)
