-- That an audit holds its fields, and nothing else.
use Rattle.pt_audit.proofs.Pacing.{holds_its_fields}
use Rattle.pt_audit.specs.AuditFields.{AuditHoldsFieldsAlone, FieldsAlone, IsMadeOfFields}
use Rattle.pt_audit.specs.declared.auditing.Auditor.{Auditor}
use Rattle.pt_state.proofs.Whole.{holds_nothing_else}

made_of_fields : (auditor : Auditor) → IsMadeOfFields auditor
made_of_fields a =
    let beside = holds_its_fields a.beside in record {
      fields = record { alloc = a.alloc; by = a.by; survey = a.survey; beside = beside.0; counts = a.counts };
      all = λ i. record { alloc = a.alloc; by = a.by; survey = a.survey; beside = beside.1 i; counts = a.counts };
      state = holds_nothing_else a.survey.state;
    }

pub audit_holds_fields_alone : AuditHoldsFieldsAlone
audit_holds_fields_alone = FieldsAlone made_of_fields
