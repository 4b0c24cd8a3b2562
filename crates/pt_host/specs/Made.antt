-- Which run was made, over what, and what it came to.
use Rattle.std.specs.Prelude.{◌≡◌, ◌≢◌, ◌⊎◌, ⊤, ℕ, Bool, true, false, List, Option, Some, None, is_some, OnOk, Result, Ok, Err, codes}
use Rattle.std.specs.IoError.{error_kind}
use Rattle.std.specs.Option.{ForSome, option_map}
use Rattle.std.specs.declared.io.Error.{Error}
use Rattle.std.specs.declared.io.ErrorKind.TheVariants.{InvalidInput}
use Rattle.pt_folder.specs.DestHeld.{told_with as dest_told}
use Rattle.pt_folder.specs.DestLaws.{Kept}
use Rattle.pt_folder.specs.SourceHeld.{told_of as source_told}
use Rattle.pt_folder.specs.declared.unsynced_change.UnsyncedChange.{UnsyncedChange}
use Rattle.pt_folder.specs.declared.writing.FileInWriting.{FileInWriting as Open}
use Rattle.pt_tree.specs.Ignoring.{told_without}
use Rattle.pt_audit.specs.Auditing.{AreUnmetIn}
use Rattle.pt_guard.specs.Guard.{Begins}
use Rattle.pt_guard.specs.PlaceCall.{Release}
use Rattle.pt_guard.specs.declared.guard.FolderLock.{FolderLock}
use Rattle.pt_guard.specs.declared.guard.FolderLock.TheVariants as lock
use Rattle.pt_guard.specs.declared.guard.GuardFault.{GuardFault}
use Rattle.pt_guard.specs.declared.places.Claim.{Claim}
use Rattle.pt_guard.specs.declared.places.Claim.TheVariants.{Alone}
use Rattle.pt_messages.specs.declared.watch.Words.TheVariants.{Run}
use Rattle.pt_move.specs.Migrates.{Migrates}
use Rattle.pt_plan.specs.declared.fault.Fault.{Fault}
use Rattle.pt_plan.specs.declared.fault.Fault.TheVariants.{Log}
use Rattle.pt_plan.specs.DeviceStates.{Failures, DeviceStates}
use Rattle.pt_plan.specs.SourceFailures.{FailsAtOpen, FailsOnlyWhereAsked, FailsWhereAsked, SourceView}
use Rattle.pt_state.specs.SourceFailures.{source_view}
use Rattle.pt_state.specs.declared.job.Job.{Job}
use Rattle.pt_state.specs.declared.job.Report.{Report}
use Rattle.pt_tree.specs.Dest.{Writing}
use Rattle.pt_tree.specs.Failing.{Failing}
use Rattle.pt_tree.specs.Path.{Path}
use Rattle.pt_tree.specs.Source.{tree_in}
use Rattle.pt_tree.specs.declared.source.Source.{Ghosts as OfSource}
use Rattle.pt_host.specs.Durable.{IsLogged, LogFailsBy}
use Rattle.pt_host.specs.Ends.{EndsWithList, guard_status, run_status}
use Rattle.pt_host.specs.Events.{EventHead, IsRecorded, event_head}
use Rattle.pt_host.specs.HostCall.{Lend, OpenOutput, TakeBack}
use Rattle.pt_host.specs.Machine.{HostIoOf, HostIoWords, MachineWords}
use Rattle.pt_host.specs.RecordedOptions.{run_members}
use Rattle.pt_host.specs.Totals.{run_totals}
use Rattle.pt_host.specs.Told.{CameTo, TellsEnd, TellsList, Tells, refusal_line}
use Rattle.pt_host.specs.declared.host.HostIo.{HostIo}
use Rattle.pt_host.specs.declared.operation.Conclusion.{Conclusion}
use Rattle.pt_host.specs.declared.options.RunOptions.{RunOptions}

-- the states of a rehearsal, whose destination tells this; those of a run are its own
abbrev pub seen : Bool → Option Writing → DeviceStates → DeviceStates
seen true plays states = record states { dest = plays }
seen false plays states = states

-- a run as it is wanted, or a rehearsal of it, was made from some states to others, with what `migrate` promises of
-- it. The destination of a rehearsal tells at first what the folder told, with no file open, and at the end the tree
-- that it plays, if the folder told one
pub record IsRun (job : Job) (rehearse : Bool) (was : Option Writing) (old new : DeviceStates)
    (ran : Result Report Fault) : Type 0 where
  pub plays : Option Writing
  pub tells : is_some plays ≡ is_some was
  pub promises : Migrates job (seen rehearse was old) (seen rehearse plays new) ran

-- and this is its status, its fault or what its report says of the lines, and what it left unmet
abbrev pub IsMade : RunOptions → Option Writing → DeviceStates → DeviceStates → Conclusion → Type 0
IsMade options was old new end =
    (ran : Result Report Fault) × IsRun options.job options.rehearse was old new ran
    × (end.status ≡ run_status options.allowed ran) × CameTo Run (run_totals ran) end.outcome
    × OnOk ran (AreUnmetIn options.job (tree_in old.source) end.unmet)

-- the paths of a run's two folders, the names of the entries that are left out of the store, and whether files are
-- put onto the disk
pub record Between : Type 0 where
  pub store : List ℕ
  pub folder : List ℕ
  pub ignored : List (List ℕ)
  pub synced : Bool

-- what the devices of a run tell: over the trees that the systems keep at these folders, with this open for reading,
-- and this unsynced and open for writing, and what the output holds
abbrev pub host_io_of : {S D W F : Type 0} → HostIoWords S D W (Kept F) → Between → HostIo S D W
    → Option (List ℕ) → Option UnsyncedChange → Option (Open F) → Failures → DeviceStates
host_io_of words at host_io reading unsynced writing failures = record {
  source = told_without at.ignored (source_told (words.store host_io.store at.store) reading);
  dest = dest_told (words.folder host_io.folder at.folder) unsynced writing;
  log = words.output host_io.output;
  failures = failures;
}

-- a rehearsal leaves all that the system keeps of the folder
abbrev pub LeavesKept : {F : Type 0} → Bool → Kept F → Kept F → Type 0
LeavesKept true old new = new ≡ old
LeavesKept false old new = ⊤

-- something is unsynced only where files are put onto the disk, and, if nothing had failed before, after a fault
abbrev pub IsUnsyncedBy : Bool → ℕ → ℕ → Option UnsyncedChange → Type 0
IsUnsyncedBy synced failures status unsynced =
    ForSome unsynced (λ _. (synced ≡ true) × (failures ≡ 0 → status ≡ 3))

-- where a run starts: between which folders, from which states, where its source fails, if it tells that, and what the system keeps of the
-- destination's
pub record Start (F : Type 0) : Type 0 where
  pub at : Between
  pub states : DeviceStates
  pub failing : Option Failing
  pub kept : Kept F

-- its source, as far as that can halt a run
abbrev pub source_of : {F : Type 0} → Start F → SourceView
source_of start =
    record { told = start.states.source; failing = start.failing; failed = start.states.failures.source }

-- a source's count of failures changed only if it fails at something that a run asks for, or at a file that was open
abbrev pub FailsByAsking : SourceView → ℕ → Type 0
FailsByAsking source failed = (failed ≡ source.failed) ⊎ (FailsAtOpen source ⊎ FailsWhereAsked source)

-- it is the same source still, and failed only where it fails at something that a run asks for, or at the file that was open
pub record IsSameSource {S : Type 0} (words : OfSource S) (old new : S) : Type 0 where
  pub keeps : words.keeps old new
  pub fails : FailsOnlyWhereAsked (source_view words old) (source_view words new)

-- a run was made from this start to what its devices then tell over these systems and this output, with this end and
-- this unsynced; a rehearsal left of the folder what the system kept; the source failed only where it fails that is asked for; and the
-- destination failed as often as calls of it did
abbrev pub RunsFrom : {S D W F : Type 0} → HostIoWords S D W (Kept F) → RunOptions → Start F → (ℕ → Type 0)
    → HostIo S D W → Conclusion → Type 0
RunsFrom {S} {D} {W} {F} words options start served host_io end =
    (reading : Option (List ℕ)) × (unsynced : Option UnsyncedChange) × (writing : Option (Open F))
    × (failures : Failures) × IsMade options (dest_told start.kept None None) start.states
    (host_io_of words start.at host_io reading unsynced writing failures) end
    × LeavesKept options.rehearse start.kept (words.folder host_io.folder start.at.folder)
    × IsUnsyncedBy start.at.synced start.states.failures.dest end.status unsynced
    × FailsByAsking (source_of start) failures.source
    × served failures.dest

-- no device failed yet
abbrev pub none_failed : Failures
none_failed = record { source = 0; dest = 0; log = 0 }

-- a run that is asked for: its options, and its two folders
pub record RunCall : Type 0 where
  pub options : RunOptions
  pub store : List ℕ
  pub folder : List ℕ

-- the run of these options, between these two folders
abbrev pub run_call : RunOptions → List ℕ → List ℕ → RunCall
run_call options store folder = record { options = options; store = store; folder = folder }

-- the two folders of a run
abbrev pub between : RunCall → Between
between call = record {
  store = call.store;
  folder = call.folder;
  ignored = call.options.ignored;
  synced = call.options.sync;
}

-- where a source fails with no file open, by the paths at which its system does
abbrev pub failing_at_rest : Option (Path → Bool) → Option Failing
failing_at_rest paths = option_map (λ at. record { at = at; reading = false }) paths

-- its start over what is lent, with no file open
abbrev pub start_of : {S D W F : Type 0} → HostIoWords S D W (Kept F) → RunCall → HostIo S D W → Start F
start_of words call host_io = record {
  at = between call;
  states = host_io_of words (between call) host_io None None None none_failed;
  failing = failing_at_rest (words.store_fails host_io.store call.store);
  kept = words.folder host_io.folder call.folder;
}

-- a run was made over these folders of the systems, with no file open, by so many calls of the destination that failed, and left the
-- systems and the output so
abbrev pub RunsOver : {S D W F : Type 0} → HostIoWords S D W (Kept F) → RunCall → HostIo S D W → (ℕ → Type 0)
    → HostIo S D W → Conclusion → Type 0
RunsOver words call old = RunsFrom words call.options (start_of words call old)

-- ---- the log's file

-- what was found is put onto its disk once, before the run: where that isn't possible there it is left, and another
-- failure is told
abbrev pub IsSynced : {F : Type 0} → F → Result (Unit {0}) Error → Result (Option F) Error → Type 0
IsSynced after (Ok done) answer = answer ≡ Ok (Some after)
IsSynced after (Err error) answer =
    ((error_kind error ≡ InvalidInput) × (answer ≡ Ok None))
    ⊎ ((error_kind error ≢ InvalidInput) × (answer ≡ Err error))

-- nothing is put onto a disk where the output goes to no file, or to one that can't be opened
abbrev pub IsTried : {F : Type 0} → (F → Result (Unit {0}) Error → F → Type 0)
    → Result (Option F) Error → Result (Option F) Error → Type 0
IsTried syncs (Err error) answer = answer ≡ Ok None
IsTried syncs (Ok None) answer = answer ≡ Ok None
IsTried {F} syncs (Ok (Some file)) answer = (reply : Result (Unit {0}) Error) × (after : F)
    × syncs file reply after × IsSynced after reply answer

-- ---- the guard and the lock

module _ {H : Type 0} (words : MachineWords H) where
  -- where a run may not begin, that is its status, and why is told; else it is made, and then the lock is given back, if
  -- there is one
  abbrev pub GoesOn : (H → H → ℕ → Type 0) → Result (FolderLock words.Lock) GuardFault → H → H → ℕ → Type 0
  GoesOn carries (Err fault) mid new status = (status ≡ guard_status fault) × Tells words (refusal_line fault) mid new
  GoesOn carries (Ok (lock.Unheld error)) mid new status = carries mid new status
  GoesOn carries (Ok (lock.Held held)) mid new status = (after : H) × carries mid after status
      × words.places after (Release held) new

  -- the guard is asked of two folders, with a lock for this run alone or to be shared, and then it goes on by its answer
  abbrev pub Guarded : Claim → List ℕ × List ℕ → (H → H → ℕ → Type 0) → H → H → ℕ → Type 0
  Guarded claim folders carries old new status = (answer : Result (FolderLock words.Lock) GuardFault) × (mid : H)
      × Begins words.places claim folders old mid answer × GoesOn carries answer mid new status

  -- the guard, with this lock; then what is made over its two folders, recorded where a file is named for its event; and the lock
  abbrev pub GuardsRecord : Claim → EventHead → Option (List ℕ) → (H → H → Conclusion → Type 0) → H → H → ℕ
      → Type 0
  GuardsRecord claim head event makes = Guarded claim head.at (IsRecorded words head event makes)

  -- it is made, the fault that ended it is told, if one did, and then each identifier of a list that is unmet; and it ends with a
  -- list or without one
  abbrev pub OfList : Option (List (List ℕ)) → (H → H → Conclusion → Type 0) → H → H → Conclusion → Type 0
  OfList list makes old new end = (plain : Conclusion) × (mid : H) × (told : H) × makes old mid plain
      × TellsEnd words plain.outcome mid told × TellsList (Tells words) list plain told new
      × EndsWithList list plain.unmet plain.status end.status × (end.outcome ≡ plain.outcome)

-- ---- the run, on a machine

-- what is made, in a word, by whether it is rehearsed
abbrev pub run_word : Bool → List ℕ
run_word true = codes "rehearsal"
run_word false = codes "run"

module _ {H : Type 0} (words : MachineWords H) where
  -- where the log is to be synced its file is asked for, and tried; else nothing is asked
  abbrev pub FindsLog : Bool → H → H → Result (Option words.OutputFile) Error → Type 0
  FindsLog false old new answer = (answer ≡ Ok None) × (new ≡ old)
  FindsLog true old new answer = (found : Result (Option words.OutputFile) Error)
      × words.host old (OpenOutput found) new × IsTried words.syncs found answer

module _ {H : Type 0} (words : MachineWords H) (asks : Option (List ℕ) → Type 0) (call : RunCall) where
  -- a run over what the machine lends, before which it is asked what is expected of it; that is given back as the run left it,
  -- its log put onto the disk by this file, and of the destination's system what serving it left; the log is blamed only where
  -- a piece of it couldn't be put; none is made where the log can't be put onto its disk, which is a fault
  abbrev pub GoesOver : Result (Option words.OutputFile) Error → H → H → Conclusion → Type 0
  GoesOver (Err error) mid new end = (end.status ≡ 3) × CameTo Run (Err Log) end.outcome × (new ≡ mid)
  GoesOver (Ok file) mid new end = asks call.options.feedback.expected
      × (host_io : HostIoOf words) × (lent : H) × words.host mid (Lend host_io) lent × (after : HostIoOf words)
      × RunsOver words.written call host_io (words.serves call.options call.folder host_io.folder after.folder)
      after end
      × IsLogged words.puts file host_io.output after.output end.status
      × LogFailsBy words.writes words.puts file host_io.output after.output end.outcome.fault
      × words.host lent (TakeBack after) new

  -- a run once it may begin: the log's file, if that is to be synced, and then the run
  abbrev pub Carries : H → H → Conclusion → Type 0
  Carries old new end = (file : Result (Option words.OutputFile) Error) × (mid : H)
      × FindsLog words call.options.sync old mid file × GoesOver file mid new end

  -- what `run_guarded` does on a machine, by the words of that: the guard, with the lock for it alone, the run that is asked
  -- for, with a list or without one, with its event, and the lock
  abbrev pub Runs : H → H → ℕ → Type 0
  Runs = GuardsRecord words Alone
      (event_head (run_word call.options.rehearse) (call.store, call.folder) true (run_members call.options))
      call.options.feedback.event
      (OfList words call.options.job.share.list Carries)
