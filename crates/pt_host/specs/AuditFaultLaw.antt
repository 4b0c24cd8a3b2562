-- What an audit that blames a device asked of it.
use Rattle.std.specs.Prelude.{◌≡◌, None, Some}
use Rattle.pt_plan.specs.declared.fault.Fault.{Fault}
use Rattle.pt_host.specs.Audits.{AuditCall, AuditsOver, IsOfFailed, failed_calls}
use Rattle.pt_host.specs.Durable.{LogFails}
use Rattle.pt_host.specs.Machine.{HostIoOf, MachineWords}
use Rattle.pt_host.specs.declared.operation.Conclusion.{Conclusion}

-- where an audit was made over what a machine lends, and a fault ended it, that comes of what failed: of the store where its system tells that it
-- fails at something that stands there, of the root where a call failed, of all those that the audit made of it, and of the log where a piece
-- couldn't be put, of all that were put
abbrev pub AuditFaultMeansFailedCall : {H : Type 0} → MachineWords H → Type 0
AuditFaultMeansFailedCall words =
    (call : AuditCall) (lent left : HostIoOf words) (end : Conclusion) (why : Fault)
    → AuditsOver words.read (failed_calls words.fails (LogFails words.writes words.puts None)) call lent left end
    → end.outcome.fault ≡ Some why
    → IsOfFailed words.read (failed_calls words.fails (LogFails words.writes words.puts None)) call lent left why
