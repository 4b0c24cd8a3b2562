-- What a step of an audit promises, and the telling of what it came to, over what the devices tell before and after.
use Rattle.std.specs.Prelude.{◌≡◌, ◌≢◌, ⊤, ℕ, Bool, IfErr, IfOk, List, OnErr, OnOk, Option, Result}
use Rattle.std.specs.Bool.{OnFalse, OnTrue}
use Rattle.pt_audit.specs.Auditing.{AuditStart, FrontToldAs, GoesOn, IsSeen, IsUnderWay, start_over}
use Rattle.pt_audit.specs.Failing.{AuditSays, BlamesRightly, FailsAs, TellFails, failures}
use Rattle.pt_audit.specs.Growing.{KeepsLog, KeepsSides}
use Rattle.pt_audit.specs.RootReader.{Follows, FollowsOn, Saw}
use Rattle.pt_audit.specs.SurveySteps.{MovesOn}
use Rattle.pt_audit.specs.Surveying.{Steps, Surveys}
use Rattle.pt_audit.specs.declared.auditing.Auditor.{Auditor}
use Rattle.pt_audit.specs.declared.auditing.StepReport.{StepReport}
use Rattle.pt_audit.specs.declared.counts.Counts.{Counts}
use Rattle.pt_audit.specs.declared.survey.SurveyEvent.{SurveyEvent}
use Rattle.pt_audit.specs.declared.compare_by.CompareBy.{CompareBy}
use Rattle.pt_audit.specs.declared.compare_by.CompareBy.TheVariants.{Bytes, Lengths}
use Rattle.pt_plan.specs.DeviceStates.{Failures}
use Rattle.pt_plan.specs.declared.fault.Fault.{Fault}
use Rattle.pt_plan.specs.declared.phase.Phase.TheVariants as phase
use Rattle.pt_state.specs.States.{job_of}
use Rattle.pt_state.specs.declared.job.Job.{Job}
use Rattle.pt_tree.specs.Source.{Reading, tree_in}
use Rattle.pt_tree.specs.declared.log.Log.{Ghosts as OfLog}
use Rattle.pt_tree.specs.declared.source.Source.{Ghosts as OfSource}

-- ---- the devices

-- what store, root and log tell, and how often each failed
pub record AuditStates : Type 0 where
  pub source : Option Reading
  pub root : Option Reading
  pub log : Option (List ℕ)
  pub failures : Failures

-- by the words of their traits
abbrev pub audit_states : {S R L : Type 0} → OfSource S → OfSource R → OfLog L → S × R × L → AuditStates
audit_states s r l devices = record {
  source = s.told devices.0;
  root = r.told devices.1;
  log = l.told devices.2;
  failures = failures (s.failed devices.0) (r.failed devices.1) (l.failed devices.2);
}

-- an audit that compares by this began over these trees, where the log told this at first
abbrev pub start_in : CompareBy → AuditStates → Option (List ℕ) → AuditStart
start_in by states first = start_over by (tree_in states.source) (tree_in states.root) first

-- they are the same ones still
pub record KeepsAll {S R L : Type 0} (s : OfSource S) (r : OfSource R) (l : OfLog L)
    (old new : S × R × L) : Type 0 where
  -- store and root, with their trees
  pub sides : KeepsSides s.told s.keeps r.told r.keeps (old.0, old.1) (new.0, new.1)
  -- and the log, in which what stood stands
  pub log : KeepsLog l.told l.keeps old.2 new.2

-- a fault is a true one
pub record FailsRightly {T : Type 0} (job : Job) (old new : AuditStates) (result : Result T Fault) : Type 0 where
  -- a device is blamed only where it failed, and else none failed
  pub blames : BlamesRightly old.failures new.failures result
  -- what it says of store and root is so
  pub says : IfErr result (AuditSays job (tree_in old.source) (tree_in old.root))

-- ---- the beginning

-- nothing was told yet
pub record Begins (auditor : Auditor) (states : AuditStates) : Type 0 where
  pub under_way : IsUnderWay states.source (start_in auditor.by states states.log) states.log auditor.counts auditor.survey
  pub follows : FollowsOn states.source states.root auditor.beside auditor.survey

-- ---- what the log is left with

-- where the audit was under way so, with a front of what is told
abbrev pub StopsUnderWay : Auditor → AuditStates → Option (List ℕ) → Type 0
StopsUnderWay auditor old now =
    (first : Option (List ℕ))
    → IsUnderWay old.source (start_in auditor.by old first) old.log auditor.counts auditor.survey
    → FrontToldAs (job_of auditor.survey.state.job) (start_in auditor.by old first) now

-- and so where a step was made, and of nothing was told that it came to
abbrev pub StopsSeen : Auditor → AuditStates → Option (List ℕ) → Type 0
StopsSeen auditor old now =
    (first : Option (List ℕ))
    → IsSeen old.source (start_in auditor.by old first) old.log auditor.counts auditor.survey
    → FrontToldAs (job_of auditor.survey.state.job) (start_in auditor.by old first) now

-- ---- a step

-- by what it compares, and how many lines were told, is as it was
pub record KeepsTold (before after : Auditor) : Type 0 where
  pub by : after.by ≡ before.by
  pub counts : after.counts ≡ before.counts

-- by lengths the root is left as it was: nothing is looked at there, opened or read
abbrev pub LeavesRoot : {R : Type 0} → CompareBy → R → R → Type 0
LeavesRoot Bytes old new = ⊤
LeavesRoot Lengths old new = new ≡ old

-- a step of the survey was made, and the root read as far, from one auditor to the next; what it came to
pub record SeesStep (before after : Auditor) (old new : AuditStates) (result : Result SurveyEvent Fault) : Type 0 where
  -- of which nothing was told
  pub keeps : OnOk result (KeepsTold before after)
  -- the survey goes on
  pub on : MovesOn (old.source, old.log) (new.source, new.log) before.survey (λ what. after.survey) result
  -- by one step, which is counted and within its bounds; and the root was read as far
  pub saw : IfOk result (λ what. Steps (tree_in old.source) before.survey after.survey
      × Saw new.source new.root after.beside what after.survey)
  -- why it broke off
  pub blamed : FailsRightly before.survey.state.job old new result
  -- and then the log has a front of what is told of the first items
  pub stops : OnErr result (StopsUnderWay before old new.log)

-- from one auditor to the next; whether there is more to see
pub record StepsOn (before after : Auditor) (old new : AuditStates) (result : Result Bool Fault) : Type 0 where
  -- where the audit was under way it is so still, or at its end
  pub on : (first : Option (List ℕ))
      → IsUnderWay old.source (start_in before.by old first) old.log before.counts before.survey
      → IfOk result (λ more. GoesOn more new.source (start_in before.by old first) new.log after.counts after.survey)
  -- by what it compares is as it was
  pub by : OnOk result (after.by ≡ before.by)
  -- the survey made one step, which is counted and within its bounds
  pub steps : OnOk result (Steps (tree_in old.source) before.survey after.survey)
  -- the root was read as far as the survey has seen
  pub follows : OnOk result (Follows new.source new.root after.beside after.survey)
  -- there is no more to see only at the survey's end
  pub ended : IfOk result (λ more. OnFalse more (after.survey.phase ≡ phase.End))
  pub more : IfOk result (λ more. OnTrue more (after.survey.phase ≢ phase.End))
  -- why it broke off
  pub blamed : FailsRightly before.survey.state.job old new result
  -- and then the log has a front of what is told of the first items
  pub stops : OnErr result (StopsUnderWay before old new.log)

-- ---- what a step came to

-- it is told by the auditor, with the counts and whether there is more to see
pub record TellsStep (auditor : Auditor) (old new : AuditStates) (result : Result StepReport Fault) : Type 0 where
  -- where nothing was told of it, the audit is under way again, or at its end
  pub on : (first : Option (List ℕ))
      → IsSeen old.source (start_in auditor.by old first) old.log auditor.counts auditor.survey
      → IfOk result (λ it. GoesOn it.more new.source (start_in auditor.by old first) new.log it.counts auditor.survey)
  -- the root is still read as far as the survey has seen
  pub follows : OnOk result (Follows new.source new.root auditor.beside auditor.survey)
  -- there is no more to see only at the survey's end
  pub ended : IfOk result (λ it. OnFalse it.more (auditor.survey.phase ≡ phase.End))
  pub more : IfOk result (λ it. OnTrue it.more (auditor.survey.phase ≢ phase.End))
  -- the device that is blamed failed, and no other; or the root is of another layout
  pub fails : TellFails result old.failures new.failures
  -- what a fault says of store and root is so
  pub says : IfErr result (AuditSays auditor.survey.state.job (tree_in old.source) (tree_in old.root))
  -- and after one the log has a front of what is told of the first items
  pub stops : OnErr result (StopsSeen auditor old new.log)

-- of the object at hand: the counts with it
pub record TellsObject (auditor : Auditor) (old new : AuditStates) (result : Result Counts Fault) : Type 0 where
  -- where nothing was told of it, the audit is under way again
  pub on : (first : Option (List ℕ))
      → IsSeen old.source (start_in auditor.by old first) old.log auditor.counts auditor.survey
      → IfOk result (λ counts. IsUnderWay new.source (start_in auditor.by old first) new.log counts auditor.survey)
  -- the survey is under way still
  pub still : OnOk result (Surveys new.source auditor.survey)
  -- the device that is blamed failed, and no other
  pub fails : FailsAs result old.failures new.failures
  -- after a fault the log has a front of what is told of the first items
  pub stops : OnErr result (StopsSeen auditor old new.log)
