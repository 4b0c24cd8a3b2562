-- All that an audit holds between two of its steps, field by field. A further field, which might hold content or text, would have to stand here.
use Rattle.std.specs.Prelude.{◌≡◌}
use Rattle.std.specs.Global.{Global}
use Rattle.pt_audit.specs.RootReader.{BesideFields, beside_of}
use Rattle.pt_audit.specs.declared.auditing.Auditor.{Auditor}
use Rattle.pt_audit.specs.declared.counts.Counts.{Counts}
use Rattle.pt_audit.specs.declared.compare_by.CompareBy.{CompareBy}
use Rattle.pt_move.specs.Running.{Running}
use Rattle.pt_state.specs.Fields.{HoldsNothingElse}

-- by what it compares; the store, as far as it was seen; what is read of the root beside it; four numbers
pub record AuditFields : Type 0 where
  -- where memory is asked for
  pub alloc : Global
  -- by what it compares
  pub by : CompareBy
  -- a run's phase and its state
  pub survey : Running
  -- three paths, two numbers and a block
  pub beside : BesideFields
  -- how many lines were told
  pub counts : Counts

-- the audit with these fields
abbrev pub auditor_of : AuditFields → Auditor
auditor_of f = record { alloc = f.alloc; by = f.by; survey = f.survey; beside = beside_of f.beside; counts = f.counts }

-- it is made of these fields and nothing else, and so is its survey's state of its own
pub record IsMadeOfFields (auditor : Auditor) : Type 0 where
  pub fields : AuditFields
  pub all : auditor ≡ auditor_of fields
  pub state : HoldsNothingElse auditor.survey.state

-- whatever it holds, it holds the fields that are listed, and nothing beside: so nothing of a comparison
pub data AuditHoldsFieldsAlone : Type 0 where
  FieldsAlone : ((auditor : Auditor) → IsMadeOfFields auditor) → AuditHoldsFieldsAlone
