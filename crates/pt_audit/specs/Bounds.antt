-- Within which bounds an audit is made: steps of a survey, one after another.
use Rattle.std.specs.Prelude.{◌≡◌, ◌≤◌, ◌+◌, ℕ, IfOk, Option, Result, Ok, Err}
use Rattle.std.specs.Option.{ForSome}
use Rattle.pt_audit.specs.AuditFields.{AuditHoldsFieldsAlone}
use Rattle.pt_audit.specs.declared.auditing.AuditCompletion.{AuditCompletion}
use Rattle.pt_audit.specs.declared.auditing.ObjectsAudit.{ObjectsAudit}
use Rattle.pt_audit.specs.declared.counts.Counts.{Counts}
use Rattle.pt_move.specs.Running.{IsNew, Running}
use Rattle.pt_plan.specs.declared.fault.Fault.{Fault}
use Rattle.pt_plan.specs.declared.phase.Phase.TheVariants as phase
use Rattle.pt_state.specs.States.{job_of}
use Rattle.pt_state.specs.declared.job.Job as own
use Rattle.pt_audit.specs.Surveying.{Steps, work_of_survey}
use Rattle.pt_tree.specs.Forest.{Forest}

-- so many steps lead from one survey to another: each is counted, and after each no more is held than the source's bound, the numbers are within
-- theirs, and nothing else is held than a state's fields
pub data Surveyed (source : Option Forest) (first : Running) : ℕ → Running → Type 0 where
  NoStep : Surveyed source first 0 first
  OneMore : {n : ℕ} {before after : Running} → Surveyed source first n before → Steps source before after
      → Surveyed source first (n + 1) after

-- all was seen, and so much was passed over
abbrev pub AllSeen : Running → Counts → Type 0
AllSeen r counts = (r.phase ≡ phase.End) × (counts.skipped ≡ r.state.counts.skipped)

-- the counts of an audit that told of all items, or why it broke off
abbrev pub counts_in : Result ObjectsAudit Fault → Result Counts Fault
counts_in (Ok audited) = Ok audited.counts
counts_in (Err why) = Err why

-- or of one that told the end too
abbrev pub counts_at_end : Result AuditCompletion Fault → Result Counts Fault
counts_at_end (Ok audited) = Ok audited.counts
counts_at_end (Err why) = Err why

-- an audit goes on from this survey by so many steps, to its end where it answers Ok
pub record IsMadeFrom (source : Option Forest) (first : Running) (result : Result Counts Fault) : Type 0 where
  pub count : ℕ
  pub last : Running
  pub steps : Surveyed source first count last
  pub ended : IfOk result (AllSeen last)

-- from a survey with this job that is to begin; the steps are no more than the limit of turns, nor than a survey's work; and nothing is held beside
pub record IsMade (job : own.Job) (source : Option Forest) (result : Result Counts Fault) : Type 0 where
  pub first : Running
  pub new : IsNew job first
  pub made : IsMadeFrom source first result
  pub within : made.count ≤ job.limits.turns
  pub work : ForSome source (λ s. made.count ≤ work_of_survey (job_of job) s)
  pub holds : AuditHoldsFieldsAlone
