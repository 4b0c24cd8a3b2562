-- What a check of a store on a machine comes to.
use Rattle.std.specs.Prelude.{◌≡◌, ◌==◌, ⊤, ℕ, Bool, cond, true, false, if◌then◌else◌, IfErr, IfOk, List, [], None, Option, Result, Ok, Err, codes}
use Rattle.std.specs.Option.{ForSome, option_map}
use Rattle.pt_check.specs.Counting.{no_numbers, stops_run}
use Rattle.pt_check.specs.Visits.{ChecksShare, Says, CheckState}
use Rattle.pt_tree.specs.Log.{Grows}
use Rattle.pt_check.specs.declared.numbers.Numbers.{Numbers}
use Rattle.pt_check.specs.declared.wants.Wants.{Wants}
use Rattle.pt_messages.specs.declared.watch.Words.TheVariants as log
use Rattle.pt_plan.specs.declared.fault.Fault.{Fault}
use Rattle.pt_plan.specs.declared.fault.Fault.TheVariants as fault
use Rattle.pt_tree.specs.Forest.{Forest}
use Rattle.pt_tree.specs.Path.{Path}
use Rattle.pt_host.specs.Audits.{store_tree}
use Rattle.pt_host.specs.Durable.{LogFails}
use Rattle.pt_host.specs.Events.{IsRecorded, event_head}
use Rattle.pt_host.specs.HostCall.{Lend, TakeBack}
use Rattle.pt_host.specs.RecordedOptions.{check_members}
use Rattle.pt_host.specs.Room.{room_in}
use Rattle.pt_host.specs.Machine.{HostIoOf, HostIoWords, MachineWords}
use Rattle.pt_host.specs.Made.{OfList}
use Rattle.pt_host.specs.Told.{CameTo}
use Rattle.pt_host.specs.Totals.{check_totals}
use Rattle.pt_host.specs.declared.host.HostIo.{HostIo}
use Rattle.pt_host.specs.declared.operation.Conclusion.{Conclusion}
use Rattle.pt_host.specs.declared.options.CheckOptions.{CheckOptions}
use Rattle.pt_walk.specs.declared.site.Form.TheVariants as form

-- of a check: 3 after a fault, and where it told something that would stop a run, else 0 where it told nothing and 1 where it told something
abbrev pub check_status : Result Numbers Fault → ℕ
check_status (Ok numbers) =
    if stops_run numbers then 3
    else if numbers.told == 0 then 0
    else 1
check_status (Err fault) = 3

-- a fault that a check answers, by what is known where a piece of the log couldn't be put: the log's, where that is so, or want of memory
abbrev pub IsFaultOfCheck : Type 0 → Fault → Type 0
IsFaultOfCheck failed fault.Log = failed
IsFaultOfCheck failed fault.Memory = ⊤
IsFaultOfCheck failed _ = ⊥

-- a check that is asked for: its options, and the folder of its store
pub record CheckCall : Type 0 where
  pub options : CheckOptions
  pub store : List ℕ

-- the check of these options, over this folder
abbrev pub check_call : CheckOptions → List ℕ → CheckCall
check_call options store = record { options = options; store = store }

-- the tree that a check sees of its store, over what is lent
abbrev pub store_checked : {S D W : Type 0} → HostIoWords S D W (Option Forest) → CheckCall → HostIo S D W
    → Option Forest
store_checked words call host_io = store_tree call.options.ignored (words.store host_io.store call.store)

-- a check that has not begun, over an output that holds this: its source fails at these paths, if it tells that, didn't fail yet, and
-- nothing is counted or unmet
abbrev pub unbegun : Option (Path → Bool) → Option (List ℕ) → CheckState
unbegun failing held = record { failing = failing; failed = 0; held = held; numbers = no_numbers; unmet = [] }

-- what these options want of a check: where a destination is named, its room is that of the folder at that path; and places are of the
-- layout, whether one is named or not
abbrev pub wants_of : CheckOptions → Wants
wants_of options = record {
  reads = options.reads;
  form = cond options.gather form.Gathering form.Plain;
  room = option_map (λ dest. room_in dest options.layout) options.dest;
  layout = options.layout;
}

-- what a check says of a folder that can't be listed: of its words nothing is promised
abbrev pub says_anything : Says
says_anything path reasons part = true

-- a check went over its share of this tree, of a system that fails at these paths, if it tells that, from an output to what that then holds,
-- and met no object of these identifiers of its list, with what `run` of pt_check promises of it
abbrev pub ChecksTree : CheckCall → Option (Path → Bool) → Option (List ℕ) → Option (List ℕ) → List (Option (List ℕ)) → Numbers
    → Forest → Type 0
ChecksTree call failing was held unmet numbers tree =
    (end : CheckState) × (end.held ≡ held) × (end.unmet ≡ unmet)
    × ChecksShare says_anything call.options.share (wants_of call.options) tree numbers (unbegun failing was) end

-- a check was made over this folder of the system that keeps the store: where it ended well the output got its lines, of its share of the
-- tree that the system keeps, and what is unmet is what it left so, and else its fault is want of memory, or the log's, of which a piece
-- couldn't be put; whatever it came to, that tree stands, what stood in the output stands, and the other system is as it was
pub record ChecksOver {S D W : Type 0} (words : HostIoWords S D W (Option Forest)) (failed : W → W → Type 0)
    (call : CheckCall) (old new : HostIo S D W) (end : Conclusion) : Type 0 where
  pub ran : Result Numbers Fault
  pub checks : IfOk ran (λ numbers. ForSome (store_checked words call old)
      (ChecksTree call (words.store_fails old.store call.store) (words.output old.output)
      (words.output new.output) end.unmet numbers))
  pub fault : IfErr ran (IsFaultOfCheck (failed old.output new.output))
  pub store_stays : store_checked words call new ≡ store_checked words call old
  pub grows : Grows (words.output old.output) (words.output new.output)
  pub folder_stays : new.folder ≡ old.folder
  pub status_is : end.status ≡ check_status ran
  pub came : CameTo log.Check (check_totals ran) end.outcome

module _ {H : Type 0} (words : MachineWords H) (asks : Option (List ℕ) → Type 0) (call : CheckCall) where
  -- it is asked what is expected of a check, and that is made over what the machine lends for a run, which is given back
  abbrev pub ChecksLent : H → H → Conclusion → Type 0
  ChecksLent old new end = asks call.options.feedback.expected
      × (host_io : HostIoOf words) × (lent : H) × words.host old (Lend host_io) lent × (after : HostIoOf words)
      × ChecksOver words.read (LogFails words.writes words.puts None) call host_io after end
      × words.host lent (TakeBack after) new

  -- what `check_store` does on a machine, by the words of that: the check, without a lock, with a list or without one, with its event, of which
  -- it is asked only whether its file lies in the store; a fault that ended the check is told; and nothing else is asked
  abbrev pub ChecksStore : H → H → ℕ → Type 0
  ChecksStore = IsRecorded words
      (event_head (codes "check") (call.store, call.store) false (check_members call.options)) call.options.feedback.event
      (OfList words call.options.share.list ChecksLent)
