-- What a run, an audit and a check say themselves of the lines of their logs, as an event and a summary have it.
use Rattle.std.specs.Prelude.{Result, Ok, Err}
use Rattle.pt_check.specs.declared.numbers.Numbers.{Numbers}
use Rattle.pt_extra.specs.declared.auditing.AuditCounts.{AuditCounts}
use Rattle.pt_messages.specs.declared.counted.Totals.{Totals}
use Rattle.pt_messages.specs.declared.counted.Totals.TheVariants.{Run, Audit, Check}
use Rattle.pt_plan.specs.declared.fault.Fault.{Fault}
use Rattle.pt_state.specs.declared.job.Report.{Report}

-- a run, by its report
abbrev pub run_totals : Result Report Fault → Result Totals Fault
run_totals (Ok report) = Ok (Run (record { done = report.done; present = report.present; skips = report.skipped }))
run_totals (Err fault) = Err fault

-- an audit, by its counts
abbrev pub audit_totals : Result AuditCounts Fault → Result Totals Fault
audit_totals (Ok told) = Ok (Audit (record {
  same = told.counts.same;
  absent = told.counts.absent;
  differs = told.counts.differs;
  skips = told.counts.skipped;
  extra = told.numbers.extra;
  stray = told.numbers.stray;
}))
audit_totals (Err fault) = Err fault

-- a check, by its numbers
abbrev pub check_totals : Result Numbers Fault → Result Totals Fault
check_totals (Ok numbers) =
    Ok (Check (record { told = numbers.told; objects = numbers.objects; files = numbers.files; bytes = numbers.bytes }))
check_totals (Err fault) = Err fault
