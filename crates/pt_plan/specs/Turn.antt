-- One turn of a run: what it does where all calls succeed, and what it leaves where it breaks off.
-- Faults of devices and want of memory apart, what is held and what the devices tell leave it no choice.
use Rattle.std.specs.Prelude.{◌≡◌, ◌⊎◌, ℕ, ◌+◌, List, Option, None, Some, Ok, Err, ⊤}
use Rattle.pt_object.specs.declared.rows.Row.{Row}
use Rattle.pt_tree.specs.Failures.{HasRisen}
use Rattle.pt_plan.specs.Answer.{Answer}
use Rattle.pt_plan.specs.declared.fault.Fault.{Fault}
use Rattle.pt_plan.specs.declared.fault.Fault.TheVariants as fault
use Rattle.pt_plan.specs.Job.{Job}
use Rattle.pt_plan.specs.Lines.{Line, Done, Present, Skipped, End}
use Rattle.pt_plan.specs.Run.{Counts, Held, Kept}
use Rattle.pt_plan.specs.TurnMake.{MakeStep}
use Rattle.pt_plan.specs.TurnPlace.{PlaceStep}
use Rattle.pt_plan.specs.TurnScan.{ScanStep}
use Rattle.pt_plan.specs.TurnStart.{StartStep}
use Rattle.pt_plan.specs.TurnWalk.{WalkStep}
use Rattle.pt_plan.specs.DeviceStates.{Answers, Calls, Changes, Failures, LeavesFront, LeavesPart, Puts, WasFound, WasRead, DeviceStates}
use Rattle.pt_tree.specs.Source.{tree_in}
use Rattle.pt_plan.specs.declared.phase.Phase.{Phase}

-- ---- what a turn does with what is held

-- from the phase, the prefix and what is held to those after, with the calls and the answer: one of the lines of the groups
pub data Next (job : Job) (counts : Counts) : Phase → List ℕ → Held → List ℕ → Held → Calls
    → Answer → Type 0 where
  Start : {here : Phase} {prefix read : List ℕ} {held : Held} {calls : Calls} {answer : Answer}
      → StartStep job here prefix read calls answer
      → Next job counts here prefix held read held calls answer
  Walk : {here : Phase} {prefix : List ℕ} {held new : Held} {calls : Calls} {answer : Answer}
      → WalkStep job prefix here held new calls answer
      → Next job counts here prefix held prefix new calls answer
  Scan : {here : Phase} {prefix : List ℕ} {held new : Held} {calls : Calls} {answer : Answer}
      → ScanStep job here held new calls answer
      → Next job counts here prefix held prefix new calls answer
  Make : {here : Phase} {prefix : List ℕ} {held new : Held} {calls : Calls} {answer : Answer}
      → MakeStep job here held new calls answer
      → Next job counts here prefix held prefix new calls answer
  Place : {here : Phase} {prefix : List ℕ} {held new : Held} {calls : Calls} {answer : Answer}
      → PlaceStep job counts here held new calls answer
      → Next job counts here prefix held prefix new calls answer

-- ---- what is counted

-- a line of an item is counted by its kind; the end line isn't
abbrev pub counted : Option Line → Counts → Counts
counted None counts = counts
counted (Some (Done at bytes empty files id to)) counts = record counts { done = counts.done + 1 }
counted (Some (Present at id to)) counts = record counts { present = counts.present + 1 }
counted (Some (Skipped at why)) counts = record counts { skipped = counts.skipped + 1 }
counted (Some (End done present skipped)) counts = counts

-- ---- what a turn does outside

-- the devices answer the calls and are changed by them, as far as they tell
pub record Happens (calls : Calls) (old new : DeviceStates) : Type 0 where
  pub source : Answers calls.asked old.source new.source
  pub dest : Changes calls.change old.dest new.dest
  pub log : Puts calls.line old.log new.log

-- the source's tree stays, and the others are left with a part of what the calls change; what the calls asked before that was answered
pub record IsPartway (calls : Calls) (old new : DeviceStates) : Type 0 where
  pub read : WasRead calls.asked old.source
  pub found : WasFound calls.line calls.change old.dest
  pub source : tree_in new.source ≡ tree_in old.source
  pub dest : LeavesPart old.dest new.dest calls.change
  pub log : LeavesFront calls.line old.log new.log

-- nothing failed
abbrev pub NoneFailed : Failures → Failures → Type 0
NoneFailed old new = new ≡ old

-- the device that is blamed has failed, and no other
abbrev pub HasFailed : Fault → Failures → Failures → Type 0
HasFailed fault.Source old new = HasRisen old.source new.source × (new.dest ≡ old.dest) × (new.log ≡ old.log)
HasFailed fault.Dest old new = (new.source ≡ old.source) × HasRisen old.dest new.dest × (new.log ≡ old.log)
HasFailed fault.Log old new = (new.source ≡ old.source) × (new.dest ≡ old.dest) × HasRisen old.log new.log
HasFailed fault.Memory old new = NoneFailed old new
HasFailed _ old new = ⊥

-- it isn't the log that failed
abbrev pub IsNotOfLog : Fault → Type 0
IsNotOfLog fault.Log = ⊥
IsNotOfLog _ = ⊤

-- a run halts for the log only in a turn that tells a line
abbrev pub MayBlame : Option Line → Fault → Type 0
MayBlame None why = IsNotOfLog why
MayBlame (Some line) why = ⊤

-- ---- one turn

-- all calls succeeded
unfoldable pub Did : Calls → DeviceStates → DeviceStates → Type 0
Did calls old new = Happens calls old new × NoneFailed old.failures new.failures

-- nothing was changed, no line was begun, and the run halts for this
unfoldable pub FailsUnchanged : Fault → DeviceStates → DeviceStates → Type 0
FailsUnchanged why old new = (tree_in new.source ≡ tree_in old.source) × (new.dest ≡ old.dest)
    × (new.log ≡ old.log) × HasFailed why old.failures new.failures × MayBlame None why

-- a part of what the calls change is left, and the run halts for this
unfoldable pub FailsPartway : Calls → Fault → DeviceStates → DeviceStates → Type 0
FailsPartway calls why old new = IsPartway calls old new × HasFailed why old.failures new.failures
    × MayBlame calls.line why

-- what a run keeps that was halted: all as it was, but that a row more may be held, and that what the hasher was fed doesn't matter any more
pub record IsHalted (rows : List Row) (before after : Kept) : Type 0 where
  pub prefix : after.prefix ≡ before.prefix
  pub trail : after.held.trail ≡ before.held.trail
  pub rows_are : after.held.rows ≡ rows
  pub contents : after.held.contents ≡ before.held.contents
  pub counts : after.counts ≡ before.counts

-- a row more is held: the source had answered before the run was halted
abbrev pub HoldsMore : List Row → Held → Calls → DeviceStates → DeviceStates → Type 0
HoldsMore rows held calls old new = (rows ≡ held.rows) × Answers calls.asked old.source new.source

-- from a phase, what is kept and the devices' states to what is kept and their states after, with the answer: all calls succeed; or what they answer
-- halts it; or a device that failed, or want of memory, halts it, and of what it was to change nothing or a part from its start is left. Its own
-- count isn't spoken of: it is made as the turn begins
pub data Turn (job : Job) (here : Phase) (before after : Kept) (old new : DeviceStates) : Answer → Type 0 where
  -- all calls succeed, and the run goes on at the next phase
  GoesOn : (calls : Calls) (next : Phase)
      → Next job before.counts here before.prefix before.held after.prefix after.held calls
      (Ok next) → Did calls old new → after.counts ≡ counted calls.line before.counts
      → Turn job here before after old new (Ok next)
  -- all calls succeed, and what they answer halts the run
  IsRefused : (prefix : List ℕ) (held : Held) (calls : Calls) (why : Fault)
      → Next job before.counts here before.prefix before.held prefix held calls (Err why)
      → Did calls old new → IsHalted before.held.rows before after
      → Turn job here before after old new (Err why)
  -- a call fails, or a growth is refused, before anything is changed
  FailsAtFirst : (why : Fault) → FailsUnchanged why old new → IsHalted before.held.rows before after
      → Turn job here before after old new (Err why)
  -- or later: a part of what the turn was to change is left
  FailsLater : (prefix : List ℕ) (held : Held) (calls : Calls) (answer : Answer) (rows : List Row)
      (why : Fault)
      → Next job before.counts here before.prefix before.held prefix held calls answer
      → FailsPartway calls why old new
      → (rows ≡ before.held.rows) ⊎ HoldsMore rows held calls old new → IsHalted rows before after
      → Turn job here before after old new (Err why)
