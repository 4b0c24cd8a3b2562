-- An audit blames only what failed.
use Rattle.std.proofs.Common.{◌≡◌, ℕ, List, Bool, [], arith, false, inl, inr, refl, true}
use Rattle.std.specs.Prelude.{◌+◌, ◌≤◌, ◌⊎◌, cond, IfErr, None, Option, Some, Result, Ok, Err}
use Rattle.pt_audit.specs.Auditing.{AuditStart}
use Rattle.pt_audit.specs.Failing.{BlamesRightly}
use Rattle.pt_audit.specs.declared.compare_by.CompareBy.{CompareBy}
use Rattle.pt_extra.proofs.Unlisted.{wider}
use Rattle.pt_extra.specs.Audits.{AuditBlames, AuditLogs, IsExtraLog, IsExtraLogSoFar, OfItems, WithRest, against_store}
use Rattle.pt_extra.specs.Findings.{Against}
use Rattle.pt_extra.specs.Lines.{ExtraFinding}
use Rattle.pt_extra.specs.Unlisted.{IsToldAt, IsToldIn}
use Rattle.pt_extra.specs.declared.auditing.AuditCounts.{AuditCounts}
use Rattle.pt_folder.specs.Reading.{unread_open}
use Rattle.pt_folder.specs.SourceHeld.{failing_of, told_of as source_told}
use Rattle.pt_folder.specs.declared.reading.FileInReading.{FileInReading}
use Rattle.pt_object.specs.WellKnown.{known_text}
use Rattle.pt_object.specs.declared.well_known.WellKnownName.TheVariants as known
use Rattle.pt_plan.specs.DeviceStates.{Failures}
use Rattle.pt_plan.specs.Job.{Job}
use Rattle.pt_plan.specs.Roots.{storage_root}
use Rattle.pt_plan.specs.SourceFailures.{FailsAtOpen}
use Rattle.pt_plan.specs.TurnStart.{is_dir_kind, kind_in}
use Rattle.pt_plan.specs.declared.fault.Fault.{Fault}
use Rattle.pt_plan.specs.declared.fault.Fault.TheVariants as fault
use Rattle.pt_host.specs.Audits.{AuditCall, FailedCalls, IsOfFailed, store_view}
use Rattle.pt_host.specs.Machine.{HostIoWords}
use Rattle.pt_host.specs.Made.{failing_at_rest}
use Rattle.pt_host.specs.StoreFailures.{FailsOnlyWhereStands, FailsWhereStands}
use Rattle.pt_host.specs.declared.host.HostIo.{HostIo}
use Rattle.pt_tree.specs.Failing.{Failing}
use Rattle.pt_tree.specs.Failures.{HasRisen}
use Rattle.pt_tree.specs.Forest.{Forest, listing_of}
use Rattle.pt_walk.specs.Left.{inside_at}
use Rattle.pt_tree.specs.Ignoring.{told_without}
use Rattle.pt_tree.specs.Path.{Path}
use Rattle.pt_tree.specs.Source.{Reading}

-- ---- what is told of the root

module _ {F G : Type 0} (weaker : F → G) where
  wider_in : (c : Against) (r : Forest) (told : List ExtraFinding) → IsToldIn F c r told → IsToldIn G c r told
  wider_in c r told = by (is_dir_kind (kind_in (listing_of r) (known_text known.StorageRoot)))
    where
      by : (stands : Bool) → cond stands (IsToldAt F c [] (c.job.tuples.count + 1) (inside_at r storage_root) told) (told ≡ [])
          → cond stands (IsToldAt G c [] (c.job.tuples.count + 1) (inside_at r storage_root) told) (told ≡ [])
      by true it = wider c [] (c.job.tuples.count + 1) (inside_at r storage_root) told weaker it
      by false it = it

  wider_log : {by : CompareBy} (job : Job) (s r : Forest) (text : List ℕ) (told : AuditCounts) → IsExtraLog F by job s r text told
      → IsExtraLog G by job s r text told
  wider_log job s r text told it = record {
    lines = it.lines;
    all = it.all;
    findings = it.findings;
    of_root = wider_in (against_store job s) r it.findings it.of_root;
    numbers = it.numbers;
    whole = it.whole;
  }

  so_far : {by : CompareBy} (job : Job) (s r : Forest) (text : List ℕ) → IsExtraLogSoFar F by job s r text → IsExtraLogSoFar G by job s r text
  so_far job s r text (OfItems it) = OfItems it
  so_far job s r text (WithRest {told = told} it) = WithRest (wider_log job s r text told it)

  -- by what follows from it that the root failed
  pub logs_by : (extra : Bool) (job : Job) (start : AuditStart) (now : Option (List ℕ)) (ran : Result AuditCounts Fault)
      → AuditLogs extra F job start now ran → AuditLogs extra G job start now ran
  logs_by false job start now ran it = it
  logs_by true job start now (Ok told) it = λ s is r is_r old is_old.
      let (text, same, log) = it s is r is_r old is_old in (text, same, wider_log job s r text told log)
  logs_by true job start now (Err why) it = λ s is r is_r old is_old.
      let (n, text, same, log) = it s is r is_r old is_old in (n, text, same, so_far job s r text log)

-- ---- what a fault is of

-- a count that rose past another rose from less
past : (old passed new : ℕ) → old ≤ passed → HasRisen passed new → HasRisen old new
past old passed new least risen = omega (arith, least, risen)

module _ {S D W : Type 0} (words : HostIoWords S D W (Option Forest)) (failed : FailedCalls D W) (call : AuditCall) (was now : HostIo S D W) where
  of_rightly : (old new : Failures) (ran : Result AuditCounts Fault) → BlamesRightly old new ran
      → (HasRisen old.source new.source → FailsWhereStands (store_view words call was))
      → (HasRisen old.dest new.dest → failed.root call.folder was.folder now.folder) → (HasRisen old.log new.log → failed.log was.output now.output)
      → IfErr ran (IsOfFailed words failed call was now)
  of_rightly old new (Ok told) blames store root log = tt
  of_rightly old new (Err fault.Source) blames store root log = store blames.source
  of_rightly old new (Err fault.Dest) blames store root log = root blames.root
  of_rightly old new (Err fault.Log) blames store root log = log blames.log
  of_rightly old new (Err fault.Memory) blames store root log = tt
  of_rightly old new (Err fault.NotPairtree) blames store root log = tt
  of_rightly old new (Err fault.Prefix) blames store root log = tt
  of_rightly old new (Err fault.StagingLeft) blames store root log = tt
  of_rightly old new (Err fault.Target) blames store root log = tt
  of_rightly old new (Err fault.Changed) blames store root log = tt
  of_rightly old new (Err fault.Turns) blames store root log = tt
  of_rightly old new (Err fault.Ended) blames store root log = tt

  -- with extras or without them
  pub of_failed : (extra : Bool) (old new : Failures) (ran : Result AuditCounts Fault) → AuditBlames extra old new ran
      → (HasRisen old.source new.source → FailsWhereStands (store_view words call was))
      → (HasRisen old.dest new.dest → failed.root call.folder was.folder now.folder) → (HasRisen old.log new.log → failed.log was.output now.output)
      → IfErr ran (IsOfFailed words failed call was now)
  of_failed false old new ran blames store root log = of_rightly old new ran blames store root log
  of_failed true old new ran (passed, least, blames) store root log =
      of_rightly (record old { dest = passed }) new ran blames store (λ risen. root (past old.dest passed new.dest least risen)) log

-- ---- the store

-- where no file is open it fails at something that stands
at_rest : (told : Option Reading) (paths : Option (Path → Bool)) (failed : ℕ)
    → FailsAtOpen (record { told = told; failing = failing_at_rest paths; failed = failed })
    → FailsWhereStands (record { told = told; failing = failing_at_rest paths; failed = failed })
at_rest told None failed fails = ([], λ tree is. inl refl, λ f is. absurd (cc))
at_rest told (Some at) failed fails = let never : false ≡ true = fails (record { at = at; reading = false }) refl in absurd (cc)

unchanged : (before after : ℕ) → before ≡ 0 → HasRisen before after → after ≡ before → ⊥
unchanged before after none risen same = omega (arith, none, risen, same)

-- a store whose count rose fails where something stands
pub store_fails : (told now : Option Reading) (paths : Option (Path → Bool)) (later : Option Failing) (before after : ℕ) → before ≡ 0 → HasRisen before after
    → FailsOnlyWhereStands (record { told = told; failing = failing_at_rest paths; failed = before })
    (record { told = now; failing = later; failed = after })
    → FailsWhereStands (record { told = told; failing = failing_at_rest paths; failed = 0 })
store_fails told now paths later before after none risen stays = by stays.failed
  where
    by : (after ≡ before) ⊎ (FailsAtOpen (record { told = told; failing = failing_at_rest paths; failed = before })
        ⊎ FailsWhereStands (record { told = told; failing = failing_at_rest paths; failed = before }))
        → FailsWhereStands (record { told = told; failing = failing_at_rest paths; failed = 0 })
    by (inl same) = absurd (unchanged before after none risen same)
    by (inr (inl fails)) = at_rest told paths 0 fails
    by (inr (inr stands)) = stands

-- so does one over a system, whatever that and its path are called
pub store_failed : {S F : Type 0} (forest : S → List ℕ → Option Forest) (failing : S → List ℕ → Option (Path → Bool)) (bytes : F → Option (List ℕ))
    (fails : Option (F → Bool)) {ignored names : List (List ℕ)} {system own : S} {path folder : List ℕ} {reading : Option (FileInReading F)}
    (now : Option Reading) (later : Option Failing) (before after : ℕ) → names ≡ ignored → own ≡ system → folder ≡ path → reading ≡ None → before ≡ 0
    → HasRisen before after
    → FailsOnlyWhereStands (record {
      told = told_without names (source_told (forest own folder) (unread_open bytes reading));
      failing = failing_of fails (failing own folder) reading;
      failed = before;
    }) (record { told = now; failing = later; failed = after })
    → FailsWhereStands (record {
      told = told_without ignored (source_told (forest system path) None);
      failing = failing_at_rest (failing system path);
      failed = 0;
    })
store_failed forest failing bytes fails now later before after names_is own_is path_is unread none risen stays =
    store_fails _ now _ later before after none risen (rw (names_is, own_is, path_is, unread) at stays)
