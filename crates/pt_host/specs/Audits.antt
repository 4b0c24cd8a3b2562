-- What an audit on a machine comes to.
use Rattle.std.specs.Prelude.{◌≡◌, ◌+◌, ◌==◌, ⊤, ℕ, Bool, true, false, if◌then◌else◌, IfErr, List, None, OnOk, Option, Result, Ok, Err, codes}
use Rattle.std.specs.Option.{ForSome}
use Rattle.pt_audit.specs.Auditing.{AreUnmetIn, start_over}
use Rattle.pt_audit.specs.Bounds.{IsMade}
use Rattle.pt_audit.specs.Failing.{AuditSays}
use Rattle.pt_audit.specs.Layout.{IsOfLayout}
use Rattle.pt_audit.specs.declared.compare_by.CompareBy.{CompareBy}
use Rattle.pt_audit.specs.declared.compare_by.CompareBy.TheVariants.{Bytes, Lengths}
use Rattle.pt_tree.specs.Source.{tree_in}
use Rattle.pt_extra.specs.Audits.{AuditLogs, in_both}
use Rattle.pt_extra.specs.declared.auditing.AuditCounts.{AuditCounts}
use Rattle.pt_folder.specs.SourceHeld.{told_of as source_told}
use Rattle.pt_guard.specs.declared.places.Claim.TheVariants.{Shared}
use Rattle.pt_tree.specs.Ignoring.{told_without}
use Rattle.pt_messages.specs.declared.watch.Words.{Words}
use Rattle.pt_messages.specs.declared.watch.Words.TheVariants as log
use Rattle.pt_plan.specs.SourceFailures.{SourceView}
use Rattle.pt_plan.specs.declared.fault.Fault.{Fault}
use Rattle.pt_plan.specs.declared.fault.Fault.TheVariants as fault
use Rattle.pt_host.specs.Durable.{LogFails}
use Rattle.pt_host.specs.Events.{event_head}
use Rattle.pt_host.specs.HostCall.{Lend, TakeBack}
use Rattle.pt_host.specs.Machine.{HostIoOf, HostIoWords, MachineWords}
use Rattle.pt_host.specs.Made.{GuardsRecord, OfList, failing_at_rest}
use Rattle.pt_host.specs.QuickAudits.{io_seen, io_within, quick_options}
use Rattle.pt_host.specs.SeenByLengths.{words_seen}
use Rattle.pt_quick.specs.declared.by_lengths.ByLengths.{ByLengths}
use Rattle.pt_host.specs.RecordedOptions.{audit_members}
use Rattle.pt_host.specs.StoreFailures.{FailsWhereStands}
use Rattle.pt_host.specs.Told.{CameTo}
use Rattle.pt_host.specs.Totals.{audit_totals}
use Rattle.pt_host.specs.declared.host.HostIo.{HostIo}
use Rattle.pt_host.specs.declared.operation.Conclusion.{Conclusion}
use Rattle.pt_host.specs.declared.options.AuditOptions.{AuditOptions}
use Rattle.pt_state.specs.States.{job_of}
use Rattle.pt_tree.specs.Log.{Grows}
use Rattle.pt_tree.specs.Forest.{Forest}

-- how many lines of an audit's log tell of what isn't the same: those of objects, of what the store lacks, and skip lines unless these are well
abbrev pub others : Bool → AuditCounts → ℕ
others false told =
    told.counts.absent + told.counts.differs + told.numbers.extra + told.numbers.stray + told.counts.skipped
others true told = told.counts.absent + told.counts.differs + told.numbers.extra + told.numbers.stray

-- of an audit, whose skip lines are well or not: 0 where its log has no such line, 1 where it has, 3 after a fault
abbrev pub audit_status : Bool → Result AuditCounts Fault → ℕ
audit_status skips_ok (Ok told) = if others skips_ok told == 0 then 0 else 1
audit_status skips_ok (Err fault) = 3

-- what is compared of files, by whether an audit is to be quick
abbrev pub compare_by : Bool → CompareBy
compare_by true = Lengths
compare_by false = Bytes

-- the words of an audit's log that compares this, with extras or without them
abbrev pub words_with : Bool → CompareBy → Words
words_with true by = log.BothWays by
words_with false by = log.Audit by

-- the tree that an audit sees of a store: the one that its system keeps, without the entries that are left out
abbrev pub store_tree : List (List ℕ) → Option Forest → Option Forest
store_tree ignored tree = tree_in (told_without ignored (source_told tree None))

-- and the one of a root
abbrev pub root_tree : Option Forest → Option Forest
root_tree tree = tree_in (source_told tree None)

-- an audit that is asked for: its options, and its two folders
pub record AuditCall : Type 0 where
  pub options : AuditOptions
  pub store : List ℕ
  pub folder : List ℕ

-- the audit of these options, over these two folders
abbrev pub audit_call : AuditOptions → List ℕ → List ℕ → AuditCall
audit_call options store folder = record { options = options; store = store; folder = folder }

-- the tree that an audit sees of its store, over what is lent
abbrev pub store_seen : {S D W : Type 0} → HostIoWords S D W (Option Forest) → AuditCall → HostIo S D W
    → Option Forest
store_seen words call host_io = store_tree call.options.ignored (words.store host_io.store call.store)

-- and the one of its root
abbrev pub root_seen : {S D W : Type 0} → HostIoWords S D W (Option Forest) → AuditCall → HostIo S D W
    → Option Forest
root_seen words call host_io = root_tree (words.folder host_io.folder call.folder)

-- what is known where a call of the root in a folder failed, of those that led from one system to another, and where a piece of the log
-- couldn't be put, of those that led from one output to another
pub record FailedCalls (D W : Type 0) : Type 1 where
  pub root : List ℕ → D → D → Type 0
  pub log : W → W → Type 0

-- these two as one
abbrev pub failed_calls : {D W : Type 0} → (List ℕ → D → D → Type 0) → (W → W → Type 0) → FailedCalls D W
failed_calls root log = record { root = root; log = log }

-- the store of an audit over what is lent, as far as it can halt one: with no file open, and no call made yet
abbrev pub store_view : {S D W : Type 0} → HostIoWords S D W (Option Forest) → AuditCall → HostIo S D W → SourceView
store_view words call host_io = record {
  told = told_without call.options.ignored (source_told (words.store host_io.store call.store) None);
  failing = failing_at_rest (words.store_fails host_io.store call.store);
  failed = 0;
}

-- a fault comes of what failed: the store's only where its system fails at a directory or a file that the audit sees, if it tells where it
-- fails, the root's only where a call of the root failed, and the log's only where a piece of that couldn't be put
abbrev pub IsOfFailed : {S D W : Type 0} → HostIoWords S D W (Option Forest) → FailedCalls D W → AuditCall
    → (old new : HostIo S D W) → Fault → Type 0
IsOfFailed words failed call old new fault.Source = FailsWhereStands (store_view words call old)
IsOfFailed words failed call old new fault.Dest = failed.root call.folder old.folder new.folder
IsOfFailed words failed call old new fault.Log = failed.log old.output new.output
IsOfFailed words failed call old new _ = ⊤

-- an audit was made over these folders of the systems, with what `audit` of pt_extra promises of it: where it ended well the
-- output got its log, of both trees as they stood, and the root is one that a run could go on with; after a fault it got a front of what
-- is told; they stand; and after each of its steps it held no more than a run's bound. With extras, folders of the root may have lines
-- that they couldn't be listed in place of what is found of them, but only where a call of the root failed; and a device is blamed only
-- where it failed
pub record AuditsOver {S D W : Type 0} (words : HostIoWords S D W (Option Forest)) (failed : FailedCalls D W) (call : AuditCall)
    (old new : HostIo S D W) (end : Conclusion) : Type 0 where
  pub ran : Result AuditCounts Fault
  pub ends : AuditLogs call.options.extra (failed.root call.folder old.folder new.folder) (job_of call.options.job)
      (start_over (compare_by call.options.quick) (store_seen words call old) (root_seen words call old) (words.output old.output))
      (words.output new.output) ran
  pub layout : OnOk ran (ForSome (root_seen words call old) (IsOfLayout (job_of call.options.job)))
  pub says : IfErr ran (AuditSays call.options.job (store_seen words call old)
      (root_seen words call old))
  pub blames : IfErr ran (IsOfFailed words failed call old new)
  pub made : IsMade call.options.job (store_seen words call old) (in_both ran)
  pub store_stays : store_seen words call new ≡ store_seen words call old
  pub root_stays : root_seen words call new ≡ root_seen words call old
  pub grows : Grows (words.output old.output) (words.output new.output)
  pub status_is : end.status ≡ audit_status call.options.skips_ok ran
  pub came : CameTo (words_with call.options.extra (compare_by call.options.quick)) (audit_totals ran) end.outcome
  pub unmet : OnOk ran (AreUnmetIn call.options.job (store_seen words call old) end.unmet)

-- the audit that is made over what is shown by lengths
abbrev pub quick_call : AuditCall → AuditCall
quick_call call = record call { options = quick_options call.options }

-- an audit by lengths was made over what is seen so of what was lent, which is as that was left
abbrev pub AuditsSeen : {S D W : Type 0} → HostIoWords (ByLengths S) (ByLengths D) W (Option Forest) → FailedCalls (ByLengths D) W
    → AuditCall → (old new : HostIo S D W) → Conclusion → Type 0
AuditsSeen {S} {D} {W} words failed call old new end = (seen : HostIo (ByLengths S) (ByLengths D) W)
    × AuditsOver words failed (quick_call call) (io_seen call.options (call.store, call.folder) old) seen end × (new ≡ io_within seen)

module _ {H : Type 0} (words : MachineWords H) (asks : Option (List ℕ) → Type 0) (call : AuditCall) where
  -- the audit that is asked for, by bytes or by lengths
  abbrev pub AuditsBy : Bool → (old new : HostIoOf words) → Conclusion → Type 0
  AuditsBy false old new end = AuditsOver words.read (failed_calls words.fails (LogFails words.writes words.puts None)) call old new end
  AuditsBy true old new end =
      AuditsSeen (words_seen words.read) (failed_calls words.fails_seen (LogFails words.writes words.puts None)) call old new end

  -- an audit once it may begin: it is asked what is expected of it, and made over what the machine lends, which is given back
  abbrev pub Compares : H → H → Conclusion → Type 0
  Compares old new end = asks call.options.feedback.expected
      × (host_io : HostIoOf words) × (lent : H) × words.host old (Lend host_io) lent × (after : HostIoOf words)
      × AuditsBy call.options.quick host_io after end
      × words.host lent (TakeBack after) new

  -- what `audit_guarded` does on a machine, by the words of that: the guard, with a lock that others may share, the audit that
  -- is asked for, with a list or without one, with its event, and the lock
  abbrev pub Audits : H → H → ℕ → Type 0
  Audits = GuardsRecord words Shared (event_head (codes "audit") (call.store, call.folder) true (audit_members call.options))
      call.options.feedback.event
      (OfList words call.options.job.share.list Compares)
