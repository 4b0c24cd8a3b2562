-- What an audit that goes both ways tells.
use Rattle.std.proofs.Common.{◌≡◌, ℕ, false, List, ◌++◌, refl, sym, ap, ◌∙◌, subst}
use Rattle.std.specs.Io.KnownBytes.{Appends}
use Rattle.std.specs.Prelude.{IfErr, IfOk, OnErr, OnOk, Option, Some, Result, Ok, Err}
use Rattle.std.specs.String.{string_bytes}
use Rattle.pt_audit.proofs.Telling.{put_behind}
use Rattle.pt_audit.proofs.ToldFront.{front_put}
use Rattle.pt_audit.specs.Auditing.{AllToldAs, AuditStart, FrontToldAs, GivesBack, IsAllTold, AreUnmetIn, LogsAs, start_over}
use Rattle.pt_audit.specs.Bounds.{IsMade, counts_at_end}
use Rattle.pt_audit.specs.Failing.{BlamesRightly}
use Rattle.pt_audit.specs.declared.auditing.AuditCompletion.{AuditCompletion}
use Rattle.pt_audit.specs.declared.auditing.ObjectsAudit.{ObjectsAudit}
use Rattle.pt_audit.specs.declared.compare_by.CompareBy.{CompareBy}
use Rattle.pt_audit.specs.declared.counts.Counts.{Counts}
use Rattle.pt_audit.specs.declared.task.AuditTask.{AuditTask}
use Rattle.pt_tree.specs.Source.{tree_in}
use Rattle.pt_extra.proofs.Telling.{appends_on, front_more, front_on}
use Rattle.pt_extra.specs.Audits.{
  AuditLogs,
  ExtraLogs,
  IsExtraLog,
  OfItems,
  PutsRest,
  TellsRest,
  WithRest,
  against_given,
  against_store,
  counts_of,
  in_both,
  rest_text,
  with_found,
}
use Rattle.pt_extra.specs.Counting.{no_numbers, with_findings}
use Rattle.pt_extra.specs.Findings.{Against}
use Rattle.pt_extra.specs.Lines.{ExtraFinding, last_text, texts}
use Rattle.pt_extra.specs.Unlisted.{IsToldIn}
use Rattle.pt_extra.specs.Walk.{RootFails, TellsFrontPast, TellsPast, against}
use Rattle.pt_extra.specs.declared.auditing.AuditCounts.{AuditCounts}
use Rattle.pt_extra.specs.declared.devices.ExtraDevices.{ExtraDevices}
use Rattle.pt_extra.specs.declared.numbers.ExtraNumbers.{ExtraNumbers}
use Rattle.pt_extra.specs.declared.walking.Extras.{Extras}
use Rattle.pt_plan.specs.DeviceStates.{Failures}
use Rattle.pt_plan.specs.Job.{Job}
use Rattle.pt_plan.specs.declared.fault.Fault.{Fault}
use Rattle.pt_state.specs.States.{job_of}
use Rattle.pt_state.specs.declared.job.Job as own
use Rattle.pt_tree.specs.Failures.{HasRisen}
use Rattle.pt_tree.specs.Forest.{Forest}
use Rattle.pt_tree.specs.Log.{AppendsFront}
use Rattle.pt_tree.specs.declared.log.Log.{Ghosts as OfLog}
use Rattle.pt_tree.specs.declared.source.Source.{Ghosts as OfSource}

-- ---- behind the objects' lines

-- the lines of what is found, and then the end line
pub puts_rest : (audited : ObjectsAudit) (fs : List ExtraFinding) (a b c : Option (List ℕ)) (numbers : ExtraNumbers) (ran : Result AuditCounts Fault)
    → Appends a b (texts fs) → numbers ≡ with_findings fs no_numbers
    → IfOk ran (λ told. (told ≡ record { counts = audited.counts; numbers = numbers })
    × Appends b c (last_text audited.by (record { counts = audited.counts; numbers = numbers })))
    → OnErr ran (AppendsFront b c (last_text audited.by (record { counts = audited.counts; numbers = numbers }))) → PutsRest audited fs a c ran
puts_rest audited fs a b c numbers (Ok told) first is puts part =
    let same : (record { counts = audited.counts; numbers = numbers }) ≡ with_found audited.counts fs =
    λ i. record { counts = audited.counts; numbers = is i } in (
      puts.0 ∙ same,
      appends_on a b c (texts fs) (last_text audited.by (with_found audited.counts fs)) first
          (subst (λ (k : AuditCounts). Appends b c (last_text audited.by k)) same puts.1),
    )
puts_rest audited fs a b c numbers (Err why) first is puts part =
    let same : (record { counts = audited.counts; numbers = numbers }) ≡ with_found audited.counts fs =
    λ i. record { counts = audited.counts; numbers = is i } in
    front_on a b c (texts fs) (last_text audited.by (with_found audited.counts fs)) first
    (subst (λ (k : AuditCounts). AppendsFront b c (last_text audited.by k)) same part)

-- a walk that is to begin over these, with what an audit gave back
pub record IsBegun {S R L E : Type 0} (walk : Extras S R L E) (devices : ExtraDevices S R L E) (audited : ObjectsAudit) : Type 0 where
  devices_are : (walk.store ≡ devices.store) × (walk.root ≡ devices.root) × (walk.log ≡ devices.log)
  against_is : (walk.job ≡ audited.job) × (walk.prefix ≡ audited.prefix)
  numbers_are : walk.numbers ≡ no_numbers

pub begun : {S R L E : Type 0} {walk : Extras S R L E} {devices : ExtraDevices S R L E} {audited : ObjectsAudit}
    → (walk.store ≡ devices.store) × (walk.root ≡ devices.root) × (walk.log ≡ devices.log) → (walk.job ≡ audited.job) × (walk.prefix ≡ audited.prefix)
    → walk.numbers ≡ no_numbers → IsBegun walk devices audited
begun devices against numbers = record { devices_are = devices; against_is = against; numbers_are = numbers }

module _ {S R L E : Type 0} (store : OfSource S) (root : OfSource R) (log : OfLog L) (walk after : Extras S R L E) (devices : ExtraDevices S R L E)
    (audited : ObjectsAudit) (it : IsBegun walk devices audited) where
  start : AuditStart
  start = start_over audited.by (tree_in (store.told devices.store)) (tree_in (root.told devices.root)) (log.told devices.log)

  same : (s : Forest) → against walk s ≡ against_given audited s
  same s = λ i. record { job = job_of (it.against_is.0 i); prefix = string_bytes (it.against_is.1 i); store = s }

  -- what is told is of what an audit gave back, and of the devices
  may : (s r : Forest) (fs : List ExtraFinding) → IsToldIn (RootFails root walk after) (against walk s) r fs
      → IsToldIn (HasRisen (root.failed devices.root) (root.failed after.root)) (against_given audited s) r fs
  may s r fs it_may =
      subst (λ (x : R). IsToldIn (HasRisen (root.failed x) (root.failed after.root)) (against_given audited s) r fs) it.devices_are.1
      (subst (λ (x : Against). IsToldIn (RootFails root walk after) x r fs) (same s) it_may)

  -- it came to its end, and the end line was tried
  pub tells_rest : (numbers : ExtraNumbers) (now : Option (List ℕ)) (ran : Result AuditCounts Fault) → TellsPast store root log IsToldIn walk after
      → numbers ≡ after.numbers
      → IfOk ran (λ told. (told ≡ record { counts = audited.counts; numbers = numbers })
      × Appends (log.told after.log) now (last_text audited.by (record { counts = audited.counts; numbers = numbers })))
      → OnErr ran (AppendsFront (log.told after.log) now (last_text audited.by (record { counts = audited.counts; numbers = numbers })))
      → TellsRest (HasRisen (root.failed devices.root) (root.failed after.root)) audited
      (start_over audited.by (tree_in (store.told devices.store)) (tree_in (root.told devices.root)) (log.told devices.log)) now ran
  tells_rest numbers now ran told numbers_are puts part = λ s is r there.
      let found = told s (ap (λ (x : S). tree_in (store.told x)) it.devices_are.0 ∙ is) r (ap (λ (x : R). tree_in (root.told x)) it.devices_are.1 ∙ there) in (
        found.0,
        may s r found.0 found.1,
        subst (λ (x : L). PutsRest audited found.0 (log.told x) now ran) it.devices_are.2
            (puts_rest audited found.0 (log.told walk.log) (log.told after.log) now numbers ran found.2.held
            (numbers_are ∙ found.2.numbers ∙ ap (with_findings found.0) it.numbers_are) puts part),
      )

  -- it broke off
  pub stops_rest : (why : Fault) → TellsFrontPast store root log IsToldIn walk after
      → TellsRest (HasRisen (root.failed devices.root) (root.failed after.root)) audited
      (start_over audited.by (tree_in (store.told devices.store)) (tree_in (root.told devices.root)) (log.told devices.log)) (log.told after.log) (Err why)
  stops_rest why front = λ s is r there.
      let found = front s (ap (λ (x : S). tree_in (store.told x)) it.devices_are.0 ∙ is) r (ap (λ (x : R). tree_in (root.told x)) it.devices_are.1 ∙ there) in (
        found.0,
        may s r found.0 found.1,
        subst (λ (x : L). AppendsFront (log.told x) (log.told after.log) (rest_text audited.by audited.counts found.0)) it.devices_are.2
            (front_more (log.told walk.log) (log.told after.log) (texts found.0) (last_text audited.by (with_found audited.counts found.0)) found.2),
      )

-- ---- a whole audit

pub extra_logs : (F : Type 0) (task : AuditTask) (start : AuditStart) (source root : Option Forest) (mid now : Option (List ℕ)) (audited : ObjectsAudit)
    (ran : Result AuditCounts Fault) → start.by ≡ task.by → source ≡ start.source → root ≡ start.root
    → AllToldAs (job_of task.job) start mid audited.counts → GivesBack task start.source audited
    → TellsRest F audited (start_over audited.by source root mid) now ran → ExtraLogs F (job_of task.job) start now ran
extra_logs F task start source root mid now audited ran by_is source_is root_is all given rest = by ran rest
  where
    same : (s : Forest) → start.source ≡ Some s → against_given audited s ≡ against_store (job_of task.job) s
    same s e = λ i. record { job = job_of (given.job i); prefix = given.prefix s e i; store = s }

    compared : audited.by ≡ start.by
    compared = given.by ∙ sym by_is

    whole : (s r : Forest) (lines : List ℕ) (fs : List ExtraFinding) → start.source ≡ Some s → IsAllTold start.by (job_of task.job) s r lines audited.counts
        → IsToldIn F (against_given audited s) r fs
        → IsExtraLog F start.by (job_of task.job) s r (lines ++ rest_text audited.by audited.counts fs) (with_found audited.counts fs)
    whole s r lines fs e all may = record {
      lines = lines;
      all = all;
      findings = fs;
      of_root = subst (λ (x : Against). IsToldIn F x r fs) (same s e) may;
      numbers = refl;
      whole = ap (λ (b : CompareBy). lines ++ rest_text b audited.counts fs) compared;
    }

    by : (ran : Result AuditCounts Fault) → TellsRest F audited (start_over audited.by source root mid) now ran → ExtraLogs F (job_of task.job) start now ran
    by (Ok told) rest = λ s e r f old g.
        let had = all s e r f old g in
        let found = rest s (source_is ∙ e) r (root_is ∙ f) in
        let more = rest_text audited.by audited.counts found.0 in (
          had.0 ++ more,
          put_behind old had.0 more mid now had.1 found.2.1,
          subst (IsExtraLog F start.by (job_of task.job) s r (had.0 ++ more)) (sym found.2.0) (whole s r had.0 found.0 e had.2 found.1),
        )
    by (Err why) rest = λ s e r f old g.
        let had = all s e r f old g in
        let found = rest s (source_is ∙ e) r (root_is ∙ f) in
        let more = rest_text audited.by audited.counts found.0 in
        let put = front_put old had.0 more mid now had.1 found.2 in
        (put.0, had.0 ++ more, put.1, WithRest (whole s r had.0 found.0 e had.2 found.1))

-- it broke off before all objects were told
pub extra_stops : (F : Type 0) (job : Job) (start : AuditStart) (now : Option (List ℕ)) (why : Fault) → FrontToldAs job start now
    → ExtraLogs F job start now (Err why)
extra_stops F job start now why front = λ s e r f old g. let had = front s e r f old g in (had.0, had.1, had.2, OfItems had.3)

-- ---- without extras

in_counts : (ran : Result Counts Fault) → in_both (counts_of ran) ≡ ran
in_counts (Ok counts) = refl
in_counts (Err why) = refl

pub plain_logs : (F : Type 0) (job : Job) (start : AuditStart) (now : Option (List ℕ)) (ran : Result Counts Fault) (told : Result AuditCounts Fault)
    → told ≡ counts_of ran
    → LogsAs job start now ran → AuditLogs false F job start now told
plain_logs F job start now ran told is logs =
    subst (AuditLogs false F job start now) (sym is) (
      subst (LogsAs job start now) (sym (in_counts ran)) logs,
      ap counts_of (in_counts ran),
    )

-- what holds by whether it broke off, and why
pub record PlainKeeps (A : Type 0) (B : Fault → Type 0) (old new : Failures) (told : Result AuditCounts Fault) : Type 0 where
  pub ok : OnOk told A
  pub says : IfErr told B
  pub blames : BlamesRightly old new told

pub plain_keeps : (A : Type 0) (B : Fault → Type 0) (old new : Failures) (ran : Result AuditCompletion Fault) (told : Result AuditCounts Fault)
    → told ≡ counts_of (counts_at_end ran) → OnOk ran A → IfErr ran B → BlamesRightly old new ran → PlainKeeps A B old new told
plain_keeps A B old new ran told is ok says blames = subst (PlainKeeps A B old new) (sym is) (by ran ok says blames)
  where
    by : (ran : Result AuditCompletion Fault) → OnOk ran A → IfErr ran B → BlamesRightly old new ran → PlainKeeps A B old new (counts_of (counts_at_end ran))
    by (Ok counts) ok says blames = record { ok = ok; says = says; blames = record { source = blames.source; root = blames.root; log = blames.log } }
    by (Err why) ok says blames = record { ok = ok; says = says; blames = record { source = blames.source; root = blames.root; log = blames.log } }

-- what is unmet at the end
pub plain_unmet : (job : own.Job) (source : Option Forest) (audited : Result AuditCompletion Fault) (told : Result AuditCounts Fault)
    (unmet : List (Option (List ℕ))) → told ≡ counts_of (counts_at_end audited) → IfOk audited (λ a. unmet ≡ a.unmet)
    → IfOk audited (λ a. AreUnmetIn job source a.unmet) → OnOk told (AreUnmetIn job source unmet)
plain_unmet job source (Ok audited) told unmet is same leaves = rw is (subst (AreUnmetIn job source) (sym same) leaves)
plain_unmet job source (Err why) told unmet is same leaves = rw is tt

pub plain_made : (job : own.Job) (source : Option Forest) (ran : Result Counts Fault) (told : Result AuditCounts Fault) → told ≡ counts_of ran
    → IsMade job source ran → IsMade job source (in_both told)
plain_made job source ran told is made = subst (λ (t : Result AuditCounts Fault). IsMade job source (in_both t)) (sym is)
    (subst (IsMade job source) (sym (in_counts ran)) made)
