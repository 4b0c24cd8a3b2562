use Rattle.pt_host.proofs.AuditBlamed.{audit_blamed}
use Rattle.pt_host.proofs.laws.fault_of_an_audit_comes_of_what_failed.Goals as goal

pub returns : goal.returns
returns g c = λ call lent left end why made is. audit_blamed call lent left end why made is
