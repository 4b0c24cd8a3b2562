-- The fault of an audit comes of what failed.
use Rattle.std.proofs.Common.{◌≡◌, ◌∙◌, subst, sym}
use Rattle.std.specs.Prelude.{Err, IfErr, Ok, Option, Result, Some}
use Rattle.std.specs.Result.{result_err}
use Rattle.pt_extra.specs.declared.auditing.AuditCounts.{AuditCounts}
use Rattle.pt_plan.specs.declared.fault.Fault.{Fault}
use Rattle.pt_tree.specs.Forest.{Forest}
use Rattle.pt_host.proofs.CameSo.{audit_fault}
use Rattle.pt_host.specs.Audits.{AuditCall, AuditsOver, FailedCalls, IsOfFailed}
use Rattle.pt_host.specs.Machine.{HostIoWords}
use Rattle.pt_host.specs.declared.host.HostIo.{HostIo}
use Rattle.pt_host.specs.declared.operation.Conclusion.{Conclusion}

of_err : (ran : Result AuditCounts Fault) (why : Fault) (P : Fault → Type 0) → result_err ran ≡ Some why → IfErr ran P → P why
of_err (Ok told) why P is holds = absurd (cc)
of_err (Err fault) why P is holds = let same : fault ≡ why = cc in subst P same holds

pub audit_blamed : {S D W : Type 0} {words : HostIoWords S D W (Option Forest)} {failed : FailedCalls D W} (call : AuditCall) (lent left : HostIo S D W)
    (end : Conclusion) (why : Fault) → AuditsOver words failed call lent left end → end.outcome.fault ≡ Some why → IsOfFailed words failed call lent left why
audit_blamed {words = words} {failed = failed} call lent left end why made is =
    of_err made.ran why (IsOfFailed words failed call lent left) (sym (audit_fault made.ran) ∙ sym made.came.1 ∙ is) made.blames
