-- What a check on a machine that told nothing says of a run's faults.
use Rattle.std.specs.Prelude.{◌≡◌, ◌≢◌, Bool, true, IfErr, None, Result, Some}
use Rattle.pt_name.specs.Share.{whole}
use Rattle.pt_plan.specs.declared.fault.Fault.{Fault}
use Rattle.pt_plan.specs.declared.fault.Fault.TheVariants as fault
use Rattle.pt_state.specs.declared.job.Report.{Report}
use Rattle.pt_tree.specs.Forest.{Forest}
use Rattle.pt_tree.specs.Path.{Path}
use Rattle.pt_tree.specs.Source.{tree_in}
use Rattle.pt_host.specs.Checking.{CheckCall, ChecksOver, store_checked}
use Rattle.pt_host.specs.Durable.{LogFails}
use Rattle.pt_host.specs.Machine.{HostIoOf, MachineWords}
use Rattle.pt_host.specs.Made.{RunCall, RunsOver, start_of}
use Rattle.pt_host.specs.declared.operation.Conclusion.{Conclusion}

-- a check and a run, each of its options and over what a machine lends it
pub record CheckAndRun {H : Type 0} (words : MachineWords H) : Type 0 where
  pub check : CheckCall
  pub checked : HostIoOf words
  pub run : RunCall
  pub lent : HostIoOf words

-- both see this tree of their store, of which the system tells that it fails at these paths below the store's folder
pub record SeesSame {H : Type 0} (words : MachineWords H) (both : CheckAndRun words) (tree : Forest) (at : Path → Bool) : Type 0 where
  pub checked : store_checked words.read both.check both.checked ≡ Some tree
  pub carried : tree_in (start_of words.written both.run both.lent).states.source ≡ Some tree
  pub checked_fails : words.read.store_fails both.checked.store both.check.store ≡ Some at
  pub carried_fails : words.written.store_fails both.lent.store both.run.store ≡ Some at

-- a run was made over this, as a machine that lends it makes it
abbrev pub IsCarriedOver : {H : Type 0} (words : MachineWords H) → RunCall → (old new : HostIoOf words) → Conclusion → Type 0
IsCarriedOver words call old new =
    RunsOver words.written call old (words.serves call.options call.folder old.folder new.folder) new

-- what it came to
abbrev pub ran_over : {H : Type 0} (words : MachineWords H) (call : RunCall) (old new : HostIoOf words) (end : Conclusion)
    → IsCarriedOver words call old new end → Result Report Fault
ran_over words call old new end made = made.4.0

-- where a check of the whole store read each file whole and ended with status 0, no run over the same store is halted for it
abbrev pub NoRunIsHaltedAfterQuietCheck : {H : Type 0} → MachineWords H → Type 0
NoRunIsHaltedAfterQuietCheck words =
    (both : CheckAndRun words) (checked carried : HostIoOf words) (tree : Forest) (at : Path → Bool) (quiet end : Conclusion)
    → SeesSame words both tree at → both.check.options.share ≡ whole → both.check.options.reads ≡ true
    → ChecksOver words.read (LogFails words.writes words.puts None) both.check both.checked checked quiet
    → quiet.status ≡ 0
    → (made : IsCarriedOver words both.run both.lent carried end)
    → IfErr (ran_over words both.run both.lent carried end made) (λ why. why ≢ fault.Source)
