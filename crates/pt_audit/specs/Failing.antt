-- Which device an audit blames, where the root is the destination, and what its faults say.
use Rattle.std.specs.Prelude.{◌≡◌, ◌≢◌, ◌⊎◌, ℕ, Option, None, Result, Ok, Err}
use Rattle.std.specs.Option.{ForSome}
use Rattle.pt_audit.specs.Layout.{IsOfAnother}
use Rattle.pt_move.specs.Counting.{Counts}
use Rattle.pt_move.specs.Outcome.{SaysRightly}
use Rattle.pt_plan.specs.declared.fault.Fault.{Fault}
use Rattle.pt_plan.specs.declared.fault.Fault.TheVariants as fault
use Rattle.pt_plan.specs.Turn.{HasFailed}
use Rattle.pt_plan.specs.DeviceStates.{Failures}
use Rattle.pt_state.specs.States.{job_of}
use Rattle.pt_state.specs.declared.job.Job as own
use Rattle.pt_audit.specs.Surveying.{MeetsLimit}
use Rattle.pt_tree.specs.Failures.{HasRisen}
use Rattle.pt_tree.specs.Forest.{Forest}

-- how often each failed
abbrev pub failures : ℕ → ℕ → ℕ → Failures
failures source root log = record { source = source; dest = root; log = log }

-- the device that is blamed has failed, and no other; else memory was wanting, and none has
abbrev pub FailsAs : {T : Type 0} → Result T Fault → Failures → Failures → Type 0
FailsAs (Ok x) old new = new ≡ old
FailsAs (Err why) old new = HasFailed why old new

-- so it is with the calls of the root alone; or what stands there isn't of this layout, and none has failed
abbrev pub RootFailsAs : {T : Type 0} → Result T Fault → ℕ → ℕ → Type 0
RootFailsAs (Ok x) old new = new ≡ old
RootFailsAs (Err fault.Dest) old new = HasRisen old new
RootFailsAs (Err fault.Memory) old new = new ≡ old
RootFailsAs (Err fault.Target) old new = new ≡ old
RootFailsAs (Err why) old new = ⊥

-- so it is where nothing but files is read of it
abbrev pub ReadFailsAs : {T : Type 0} → Result T Fault → ℕ → ℕ → Type 0
ReadFailsAs (Ok x) old new = new ≡ old
ReadFailsAs (Err fault.Dest) old new = HasRisen old new
ReadFailsAs (Err fault.Memory) old new = new ≡ old
ReadFailsAs (Err why) old new = ⊥

-- or so it is with all calls
abbrev pub TellFails : {T : Type 0} → Result T Fault → Failures → Failures → Type 0
TellFails (Ok x) old new = new ≡ old
TellFails (Err why) old new = HasFailed why old new ⊎ ((why ≡ fault.Target) × (new ≡ old))

-- a device is blamed only where its count of failures rose, and else its count stayed
pub record BlamesRightly {T : Type 0} (old new : Failures) (result : Result T Fault) : Type 0 where
  pub source : Counts 1 old.source new.source result
  pub root : Counts 2 old.dest new.dest result
  pub log : Counts 3 old.log new.log result

-- ---- what a fault says

-- what a fault of an audit says of store and root
pub record AuditSays (job : own.Job) (source root : Option Forest) (f : Fault) : Type 0 where
  -- a store is refused only for what it is
  pub rightly : SaysRightly job source None f
  -- the root is refused only where it is of another layout
  pub target : f ≡ fault.Target → ForSome root (IsOfAnother (job_of job))
  -- what else is in the destination never is
  pub staging : f ≢ fault.StagingLeft
  pub turns : MeetsLimit job source f
  -- and it has never ended already
  pub ended : f ≢ fault.Ended
