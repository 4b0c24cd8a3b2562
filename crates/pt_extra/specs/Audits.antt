-- An audit both ways: what its log tells.
use Rattle.std.specs.Prelude.{◌≡◌, ◌≤◌, ℕ, Bool, true, false, IfErr, List, ◌++◌, OnOk, Option, Some, Result, Ok, Err, take}
use Rattle.std.specs.Io.KnownBytes.{Appends}
use Rattle.std.specs.Option.{ForSome}
use Rattle.std.specs.String.{string_bytes}
use Rattle.pt_audit.specs.Auditing.{AuditStart, IsAllTold, IsOfItems, AreUnmetIn, LogsAs, start_over}
use Rattle.pt_audit.specs.Bounds.{IsMade}
use Rattle.pt_audit.specs.Failing.{AuditSays, BlamesRightly, failures}
use Rattle.pt_audit.specs.Growing.{KeepsLog, KeepsSides}
use Rattle.pt_audit.specs.Layout.{IsOfLayout}
use Rattle.pt_audit.specs.declared.auditing.ObjectsAudit.{ObjectsAudit}
use Rattle.pt_audit.specs.declared.counts.Counts.{Counts}
use Rattle.pt_audit.specs.declared.task.AuditTask.{AuditTask}
use Rattle.pt_audit.specs.declared.compare_by.CompareBy.{CompareBy}
use Rattle.pt_extra.specs.Counting.{no_numbers, with_findings}
use Rattle.pt_extra.specs.Findings.{Against}
use Rattle.pt_extra.specs.Lines.{ExtraFinding, last_text, texts}
use Rattle.pt_extra.specs.Unlisted.{IsToldIn}
use Rattle.pt_extra.specs.WalkFields.{WalkHoldsFieldsAlone}
use Rattle.pt_extra.specs.declared.auditing.AuditCounts.{AuditCounts}
use Rattle.pt_extra.specs.declared.auditing.AuditEnd.{AuditEnd}
use Rattle.pt_extra.specs.declared.devices.ExtraDevices.{ExtraDevices}
use Rattle.pt_plan.specs.DeviceStates.{Failures}
use Rattle.pt_plan.specs.Job.{Job}
use Rattle.pt_plan.specs.Store.{prefix_of}
use Rattle.pt_plan.specs.declared.fault.Fault.{Fault}
use Rattle.pt_state.specs.States.{job_of}
use Rattle.pt_tree.specs.Failures.{HasRisen}
use Rattle.pt_tree.specs.Forest.{Forest}
use Rattle.pt_tree.specs.Log.{AppendsFront}
use Rattle.pt_tree.specs.Source.{tree_in}
use Rattle.pt_tree.specs.declared.log.Log.{Ghosts as OfLog}
use Rattle.pt_tree.specs.declared.source.Source.{Ghosts as OfSource}

-- ---- counts

-- these, with none of what the store lacks
abbrev pub without_extras : Counts → AuditCounts
without_extras counts = record { counts = counts; numbers = no_numbers }

-- the same of an answer
abbrev pub counts_of : Result Counts Fault → Result AuditCounts Fault
counts_of (Ok counts) = Ok (without_extras counts)
counts_of (Err why) = Err why

-- the counts of what the store has, of an answer
abbrev pub in_both : Result AuditCounts Fault → Result Counts Fault
in_both (Ok told) = Ok told.counts
in_both (Err why) = Err why

-- ---- behind the lines of what the store has

-- with the numbers of what is found
abbrev pub with_found : Counts → List ExtraFinding → AuditCounts
with_found counts findings = record { counts = counts; numbers = with_findings findings no_numbers }

-- the lines of what is found, and the end line of an audit that compares by this
abbrev pub rest_text : CompareBy → Counts → List ExtraFinding → List ℕ
rest_text by counts findings = texts findings ++ last_text by (with_found counts findings)

-- by the answer that is put, with the counts that an audit gives back, or a front of it
abbrev pub PutsRest : ObjectsAudit → List ExtraFinding → Option (List ℕ) → Option (List ℕ) → Result AuditCounts Fault → Type 0
PutsRest audited findings old new (Ok told) =
    (told ≡ with_found audited.counts findings) × Appends old new (rest_text audited.by audited.counts findings)
PutsRest audited findings old new (Err why) = AppendsFront old new (rest_text audited.by audited.counts findings)

-- against what a root is held, by what an audit gives back
abbrev pub against_given : ObjectsAudit → Forest → Against
against_given audited store =
    record { job = job_of audited.job; prefix = string_bytes audited.prefix; store = store }

-- so it is behind the objects' lines of an audit, where store and root tell, by whether the root failed
abbrev pub TellsRest : Type 0 → ObjectsAudit → AuditStart → Option (List ℕ) → Result AuditCounts Fault → Type 0
TellsRest failed audited start now ran =
    ForSome start.source
    (λ s. ForSome start.root
    (λ r. (findings : List ExtraFinding) × IsToldIn failed (against_given audited s) r findings
    × PutsRest audited findings start.log now ran))

-- ---- a whole audit

-- against what a root is held: a store, whose own prefix it is
abbrev pub against_store : Job → Forest → Against
against_store job store = record { job = job; prefix = prefix_of store; store = store }

-- what is told of all items of the store, then of what it lacks, by whether the root failed, and the end line, with the counts of these
pub record IsExtraLog (failed : Type 0) (by : CompareBy) (job : Job) (source root : Forest) (text : List ℕ)
    (told : AuditCounts) : Type 0 where
  pub lines : List ℕ
  pub all : IsAllTold by job source root lines told.counts
  pub findings : List ExtraFinding
  pub of_root : IsToldIn failed (against_store job source) root findings
  pub numbers : told ≡ with_found told.counts findings
  pub whole : text ≡ lines ++ rest_text by told.counts findings

-- what is told of the first so many items; or all of that
pub data IsExtraLogSoFar (failed : Type 0) (by : CompareBy) (job : Job) (source root : Forest) (text : List ℕ) : Type 0 where
  OfItems : IsOfItems by job source root text → IsExtraLogSoFar failed by job source root text
  WithRest : {told : AuditCounts} → IsExtraLog failed by job source root text told → IsExtraLogSoFar failed by job source root text

-- where all three are told, the log has got by the answer all of it, with these counts, or a front of it
abbrev pub ExtraLogs : Type 0 → Job → AuditStart → Option (List ℕ) → Result AuditCounts Fault → Type 0
ExtraLogs failed job start now (Ok told) =
    ForSome start.source
    (λ s. ForSome start.root
    (λ r. ForSome start.log
    (λ old. (text : List ℕ) × (now ≡ Some (old ++ text)) × IsExtraLog failed start.by job s r text told)))
ExtraLogs failed job start now (Err why) =
    ForSome start.source
    (λ s. ForSome start.root
    (λ r. ForSome start.log
    (λ old. (n : ℕ) × (text : List ℕ) × (now ≡ Some (old ++ take n text)) × IsExtraLogSoFar failed start.by job s r text)))

-- with extras, by whether the root failed, or without them
abbrev pub AuditLogs : Bool → Type 0 → Job → AuditStart → Option (List ℕ) → Result AuditCounts Fault → Type 0
AuditLogs true failed job start now ran = ExtraLogs failed job start now ran
AuditLogs false failed job start now ran =
    LogsAs job start now (in_both ran) × (counts_of (in_both ran) ≡ ran)

-- devices are blamed rightly; with extras the root may have failed before, and was passed
abbrev pub AuditBlames : Bool → Failures → Failures → Result AuditCounts Fault → Type 0
AuditBlames true old new ran =
    (passed : ℕ) × (old.dest ≤ passed) × BlamesRightly (record old { dest = passed }) new ran
AuditBlames false old new ran = BlamesRightly old new ran

-- an audit, with extras or without them: of these devices, to this end
pub record AuditsDevices {S R L E : Type 0} (s : OfSource S) (r : OfSource R) (l : OfLog L) (with_extras : Bool) (task : AuditTask)
    (audit : ExtraDevices S R L E × AuditEnd S R L E) : Type 0 where
  -- the log has got what is told of store and root, with these counts, or a front of it
  pub ends : AuditLogs with_extras (HasRisen (r.failed audit.0.root) (r.failed audit.1.devices.root)) (job_of task.job)
      (start_over task.by (tree_in (s.told audit.0.store)) (tree_in (r.told audit.0.root)) (l.told audit.0.log)) (l.told audit.1.devices.log) audit.1.ran
  -- where it ends well the root that stands is of this layout, or there is none
  pub layout : OnOk audit.1.ran (ForSome (tree_in (r.told audit.0.root)) (IsOfLayout (job_of task.job)))
  -- store and root are the same ones still, with their trees
  pub sides : KeepsSides s.told s.keeps r.told r.keeps (audit.0.store, audit.0.root) (audit.1.devices.store, audit.1.devices.root)
  -- so is the log, in which what stood stands
  pub log : KeepsLog l.told l.keeps audit.0.log audit.1.devices.log
  -- a device is blamed only where it failed
  pub blames : AuditBlames with_extras (failures (s.failed audit.0.store) (r.failed audit.0.root) (l.failed audit.0.log))
      (failures (s.failed audit.1.devices.store) (r.failed audit.1.devices.root) (l.failed audit.1.devices.log)) audit.1.ran
  -- what a fault says of store and root is so
  pub says : IfErr audit.1.ran (AuditSays task.job (tree_in (s.told audit.0.store)) (tree_in (r.told audit.0.root)))
  -- it is made by steps of a survey, after each of which it holds no more than a run's bound, and nothing beside
  pub made : IsMade task.job (tree_in (s.told audit.0.store)) (in_both audit.1.ran)
  -- nor does a walk over the root
  pub holds : WalkHoldsFieldsAlone S R L E
  -- at its end just those of the list are unmet that are met nowhere in the store
  pub unmet : OnOk audit.1.ran (AreUnmetIn task.job (tree_in (s.told audit.0.store)) audit.1.unmet)
