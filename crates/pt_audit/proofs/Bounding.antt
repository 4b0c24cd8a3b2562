-- That the steps of an audit are within its bounds.
use Rattle.std.proofs.Common.{◌≡◌, ◌≤◌, ◌+◌, ◌∙◌, ℕ, ap, arith, refl, subst, sym}
use Rattle.std.specs.Prelude.{Option, Result, Ok, Err, IfOk}
use Rattle.std.specs.Option.{ForSome}
use Rattle.pt_audit.proofs.Fields.{audit_holds_fields_alone}
use Rattle.pt_audit.specs.Bounds.{IsMade, IsMadeFrom, NoStep, OneMore, Surveyed, counts_in}
use Rattle.pt_audit.specs.declared.auditing.ObjectsAudit.{ObjectsAudit}
use Rattle.pt_audit.specs.declared.counts.Counts.{Counts}
use Rattle.pt_move.specs.Running.{IsNew, Running}
use Rattle.pt_plan.specs.declared.fault.Fault.{Fault}
use Rattle.pt_state.specs.States.{job_of}
use Rattle.pt_state.specs.declared.job.Job as own
use Rattle.pt_state.specs.declared.job.Report.{Report}
use Rattle.pt_audit.specs.Surveying.{work_of_survey}
use Rattle.pt_tree.specs.Forest.{Forest}

module _ {source : Option Forest} {first : Running} where
  -- each step is counted
  turns_counted : {n : ℕ} {last : Running} → Surveyed source first n last → last.state.counts.turns ≡ first.state.counts.turns + n
  turns_counted NoStep = omega arith
  turns_counted (OneMore steps one) = let so_far = turns_counted steps in let counted = one.counted in omega (arith, so_far, counted)

  -- the job stays
  pub same_job : {n : ℕ} {last : Running} → Surveyed source first n last → last.state.job ≡ first.state.job
  same_job NoStep = refl
  same_job (OneMore steps one) = one.job ∙ same_job steps

  -- a survey that is to begin has counted nothing
  counted_new : {job : own.Job} {n : ℕ} {last : Running} → IsNew job first → Surveyed source first n last → last.state.counts.turns ≡ n
  counted_new new steps = let begun = ap (λ (c : Report). c.turns) new.counts in let counted = turns_counted steps in omega (arith, begun, counted)

  few_steps : {job : own.Job} {n : ℕ} {last : Running} → IsNew job first → Surveyed source first n last → n ≤ job.limits.turns
  few_steps new NoStep = omega arith
  few_steps {job} new (OneMore {after = after} steps one) =
      let counted = counted_new new (OneMore steps one) in
      let within = subst (λ (j : own.Job). after.state.counts.turns ≤ j.limits.turns) (same_job steps ∙ new.job_is) one.within in
      omega (arith, counted, within)

  work_steps : {job : own.Job} {n : ℕ} {last : Running} → IsNew job first → Surveyed source first n last
      → ForSome source (λ s. n ≤ work_of_survey (job_of job) s)
  work_steps new NoStep = λ s is. omega arith
  work_steps {job} new (OneMore {after = after} steps one) = λ s is.
      let counted = counted_new new (OneMore steps one) in
      let within = subst (λ (j : own.Job). after.state.counts.turns ≤ work_of_survey (job_of j) s) (same_job steps ∙ new.job_is) (one.work s is) in
      omega (arith, counted, within)

-- an audit that goes on from a survey that is to begin
pub made_within : {job : own.Job} {source : Option Forest} {first : Running} {result : Result Counts Fault} → IsNew job first → IsMadeFrom source first result
    → IsMade job source result
made_within {first = first} new made = record {
  first = first;
  new = new;
  made = made;
  within = few_steps new made.steps;
  work = work_steps new made.steps;
  holds = audit_holds_fields_alone;
}

-- whatever comes behind it, if that tells its counts
pub made_by : {job : own.Job} {source : Option Forest} {result : Result Counts Fault} (last : Result Counts Fault) → IfOk last (λ counts. result ≡ Ok counts)
    → IsMade job source result → IsMade job source last
made_by {job} {source} (Ok counts) is it = subst (IsMade job source) is it
made_by (Err why) is it = record {
  first = it.first;
  new = it.new;
  made = record
      { count = it.made.count; last = it.made.last; steps = it.made.steps; ended = tt };
  within = it.within;
  work = it.work;
  holds = it.holds;
}

pub made_stopped : {job : own.Job} {source : Option Forest} {result : Result Counts Fault} (last : Result ObjectsAudit Fault) (why : Fault) → last ≡ Err why
    → IsMade job source result → IsMade job source (counts_in last)
made_stopped {job} {source} last why is it = subst (λ (r : Result ObjectsAudit Fault). IsMade job source (counts_in r)) (sym is) (made_by (Err why) tt it)

-- by the end line, which gives the counts again
pub made_end : {job : own.Job} {source : Option Forest} {counts : Counts} (Told : Type 0) (last : Result Counts Fault)
    → IfOk last (λ told. (told ≡ counts) × Told) → IsMade job source (Ok counts) → IsMade job source last
made_end Told (Ok told) puts it = made_by (Ok told) (ap (λ (c : Counts). Ok c) (sym puts.0)) it
made_end Told (Err why) puts it = made_by (Err why) tt it
