-- How something ended, by other words for the same.
use Rattle.std.proofs.Common.{◌≡◌, refl, subst}
use Rattle.std.specs.Prelude.{Err, Ok, Result}
use Rattle.std.specs.Result.{result_err}
use Rattle.pt_extra.specs.declared.auditing.AuditCounts.{AuditCounts}
use Rattle.pt_host.specs.Told.{CameTo}
use Rattle.pt_host.specs.Totals.{audit_totals, run_totals}
use Rattle.pt_messages.specs.declared.counted.Totals.{Totals}
use Rattle.pt_messages.specs.declared.event.Outcome.{Outcome}
use Rattle.pt_messages.specs.declared.watch.Words.{Words}
use Rattle.pt_plan.specs.declared.fault.Fault.{Fault}
use Rattle.pt_state.specs.declared.job.Report.{Report}

pub came_so : (kind named : Words) (ended is : Result Totals Fault) (outcome : Outcome) → kind ≡ named → ended ≡ is → CameTo kind ended outcome
    → CameTo named is outcome
came_so kind named ended is outcome words same came =
    subst (λ (k : Words). CameTo k is outcome) words (subst (λ (e : Result Totals Fault). CameTo kind e outcome) same came)

-- the fault that ended a run is the one that it answers
pub run_fault : (ran : Result Report Fault) → result_err (run_totals ran) ≡ result_err ran
run_fault (Ok report) = refl
run_fault (Err why) = refl

-- and so it is with an audit
pub audit_fault : (ran : Result AuditCounts Fault) → result_err (audit_totals ran) ≡ result_err ran
audit_fault (Ok told) = refl
audit_fault (Err why) = refl
